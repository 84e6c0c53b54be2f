use Rattle.std.proofs.Common.{ap, ◌∙◌, ◌∷◌, sym}
use Rattle.core_lowering_drafts.specs.declared.behind.Tail.{Tail}
use Rattle.core_lowering_drafts.specs.Branches.{asked_behind, rest_behind}
use Rattle.core_lowering_drafts.specs.Drafts.{Normal, in_order, without}
use Rattle.core_lowering_drafts.specs.EndSets.{seen_asked}
use Rattle.core_lowering_drafts.specs.Only.{is_met}
use Rattle.core_lowering_drafts.proofs.DraftEnds.{equal-same}
use Rattle.core_lowering_drafts.proofs.StandingBranches.{alone-same}
use Rattle.core_lowering_drafts.proofs.behind.tail_meets.Goals as goal

pub returns-in-AtExit : goal.returns-in-AtExit
returns-in-AtExit c = c.do_both_meet.ensures
    ∙ ap (λ (t : Tail). is_met (rest_behind c.args.after t) (asked_behind c.args.after t)) (sym c.in-AtExit.is)

pub returns-in-Kept : goal.returns-in-Kept
returns-in-Kept c =
    let A = seen_asked c.args.after.asked in
    alone-same (in_order c.args.after.finally.now) (seen_asked c.with_normal.result) (Normal ∷ A) c.meets.result
    c.meets.ensures c.with_normal.ensures
    ∙ ap (λ (t : Tail). is_met (rest_behind c.args.after t) (asked_behind c.args.after t)) (sym c.in-Kept.is)

pub returns-in-Turned : goal.returns-in-Turned
returns-in-Turned c =
    let A = seen_asked c.args.after.asked in
    let W = seen_asked c.without_normal.result in
    alone-same (in_order c.args.after.finally.now) W (without Normal A) c.meets-in-Turned.result
    c.meets-in-Turned.ensures (equal-same W (without Normal A) c.without_normal.ensures)
    ∙ ap (λ (t : Tail). is_met (rest_behind c.args.after t) (asked_behind c.args.after t)) (sym c.in-Turned.is)
