use Rattle.std.proofs.Common.{Some, sym, ap, ◌∙◌}
use Rattle.owner_domain.specs.Numbered.{read_state}
use Rattle.access_domain.specs.Flow.{joined_next}
use Rattle.transfer_steps.specs.Walks.{next_of}
use Rattle.transfer_steps.proofs.NumberedSteps.{met-state, met-state-in}
use Rattle.transfer_steps.proofs.meeting.meet_ends.Goals as goal

pub returns-then-left_goes_on-clause-next : goal.returns-then-left_goes_on-clause-next
returns-then-left_goes_on-clause-next c = λ table once low other_low.
    let here = c.args.state.now in
    let other = c.args.other in
    ap Some (met-state table once here other low other_low c.meet.new.self c.meet.ensures.state)
    ∙ sym (λ i. joined_next (next_of (c.if-left_goes_on.true i) (read_state table here))
    (next_of (c.if-not-right_goes_on.false i) (read_state table other)))

pub returns-then-left_goes_on-clause-numbers : goal.returns-then-left_goes_on-clause-numbers
returns-then-left_goes_on-clause-numbers c = λ table once low other_low.
    met-state-in table once c.args.state.now c.args.other low other_low c.meet.new.self c.meet.ensures.state
