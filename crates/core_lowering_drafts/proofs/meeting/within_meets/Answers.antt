use Rattle.std.proofs.Common.{◌≡◌, false, refl, sym, ◌∙◌}
use Rattle.core_lowering_drafts.specs.Drafts.{Exit, ends, ends_within, has, in_order}
use Rattle.core_lowering_drafts.specs.EndSets.{seen, seen_asked}
use Rattle.core_lowering_drafts.proofs.DraftEnds.{same-trans}
use Rattle.core_lowering_drafts.proofs.Queries.{within-told}
use Rattle.core_lowering_drafts.proofs.SameEnds.{meet-same, within-same}
use Rattle.core_lowering_drafts.proofs.meeting.within_meets.Goals as goal

pub returns-then-has : goal.returns-then-has
returns-then-has c =
    let A = seen_asked c.args.asked in
    let k = c.args.exit.0 in
    let E = ends (in_order c.args.body.now) in
    let F = seen c.ends.result.now in
    c.meet.ensures
    ∙ meet-same (seen c.in_ok-ends.ends) (ends_within k E) A A
    (same-trans (seen c.in_ok-ends.ends) (ends_within k F) (ends_within k E) c.in_ok-ends.ensures
    (within-same k F E c.ends.ensures)) (λ e. refl)

pub returns : goal.returns
returns c =
    let A = seen_asked c.args.asked in
    let k = c.args.exit.0 in
    let E = ends (in_order c.args.body.now) in
    let none : has A (Exit k) ≡ false = sym c.has.ensures ∙ c.if-has.false in
    within-told k E A c.has-2.result c.both-comes_out.result c.has_normal.result c.meets.result c.either.result none
    (c.has-2.ensures ∙ c.ends-2.ensures (Exit k)) c.has_normal.ensures c.both-comes_out.ensures c.meets.ensures
    c.either.ensures
