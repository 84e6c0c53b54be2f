use Rattle.std.proofs.Common.{◌∙◌, refl, take}
use Rattle.core_lowering_drafts.specs.EndSets.{seen, seen_asked}
use Rattle.core_lowering_drafts.specs.Groups.{fallen}
use Rattle.core_lowering_drafts.specs.Lists.{ends_of}
use Rattle.core_lowering_drafts.proofs.Falling.{ends-at}
use Rattle.core_lowering_drafts.proofs.SameEnds.{meet-same}
use Rattle.core_lowering_drafts.proofs.draft.Groups.meet.Goals as goal

pub returns-in-Some-get : goal.returns-in-Some-get
returns-in-Some-get c =
    let E = ends_of (fallen (take c.args.count c.args.self.now)) in
    let A = seen_asked c.args.asked in
    let found = c.in-Some-get.ensures.lookup in
    let kept = c.in-Some-get.ends.now in
    c.meet.ensures
    ∙ meet-same (seen kept) E A A
    (ends-at c.self.inside.ends.items c.deref.result.now c.self.inside.drafts.items c.args.self.now c.args.count
    c.in-Some.last kept c.self.invariant c.self.view_is c.deref.ensures.value c.in-Some.ensures.0 c.in-Some.ensures.1
    found.3.0 found.1) (λ e. refl)
