use Rattle.std.proofs.Common.{◌∷◌, subst, take}
use Rattle.core_lowering_drafts.specs.Drafts.{Ends, Normal, SameEnds}
use Rattle.core_lowering_drafts.specs.EndSets.{seen}
use Rattle.core_lowering_drafts.specs.Groups.{fallen}
use Rattle.core_lowering_drafts.specs.Lists.{ends_of}
use Rattle.core_lowering_drafts.proofs.Falling.{ends-at, or-nothing}
use Rattle.core_lowering_drafts.proofs.draft.Groups.entered_ends.Goals as goal

pub returns : goal.returns
returns c =
    let E = ends_of (fallen (take c.args.count c.args.self.now)) in
    let found = c.in-Some-get.ensures.lookup in
    let kept = c.in-Some-get.kept.now in
    or-nothing (seen c.put_normal.new.self) (seen kept) E
    (subst (λ (X : Ends). SameEnds (seen c.put_normal.new.self) (Normal ∷ X)) c.in_ok-ends.ensures c.put_normal.ensures)
    (ends-at c.self.inside.ends.items c.deref.result.now c.self.inside.drafts.items c.args.self.now c.args.count
    c.in-Some.last kept c.self.invariant c.self.view_is c.deref.ensures.value c.in-Some.ensures.0 c.in-Some.ensures.1
    found.3.0 found.1)
