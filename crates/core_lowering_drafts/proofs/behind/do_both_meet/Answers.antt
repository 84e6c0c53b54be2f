use Rattle.std.proofs.Common.{ap, ◌∙◌}
use Rattle.core_lowering_drafts.specs.Drafts.{Ends, Normal, in_order, meets}
use Rattle.core_lowering_drafts.specs.EndSets.{seen_asked}
use Rattle.core_lowering_drafts.proofs.StandingBranches.{both-met}
use Rattle.core_lowering_drafts.proofs.behind.do_both_meet.Goals as goal

pub returns : goal.returns
returns c =
    let F = in_order c.args.after.finally.now in
    let L = in_order c.args.after.last.now in
    let A = seen_asked c.args.after.asked in
    c.either.ensures
    ∙ both-met F L A c.meets-leaves.result c.both-goes_on.result c.has_normal.result c.meets.result
    (c.meets-leaves.ensures ∙ ap (λ (X : Ends). meets F X) c.without_normal.ensures)
    (c.has_normal.ensures ∙ c.ends.ensures Normal) c.meets.ensures c.both-goes_on.ensures
