use Rattle.transfer_steps.proofs.HeadsRead.{left-in, loop-begun}
use Rattle.transfer_steps.proofs.Longer.{on_ok_then}
use Rattle.transfer_steps.proofs.meeting.enter.Goals as goal

pub returns-clause-next : goal.returns-clause-next
returns-clause-next c =
    let heads = c.args.heads.now in
    let k = c.args.number in
    let left = c.index-heads-number.result in
    let here = c.args.state.now in
    let new = c.go_on.new.state in
    on_ok_then c.go_on.result _ _ c.go_on.ensures.next (λ f table once low kept.
    loop-begun table heads k kept left here new c.requires c.index-heads-number.is
    (f table once low (left-in table heads k kept left c.requires c.index-heads-number.is)))

pub returns-clause-numbers : goal.returns-clause-numbers
returns-clause-numbers c =
    let heads = c.args.heads.now in
    let k = c.args.number in
    let left = c.index-heads-number.result in
    on_ok_then c.go_on.result _ _ c.go_on.ensures.numbers (λ f table once low kept.
    f table once low (left-in table heads k kept left c.requires c.index-heads-number.is))
