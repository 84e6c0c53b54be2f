use Rattle.std.proofs.Common.{Option, option_map, sym, ap, subst, ◌∙◌}
use Rattle.owner_domain.specs.declared.numbered.NumberedState.{NumberedState}
use Rattle.owner_domain.specs.Numbered.{read_state}
use Rattle.transfer_loops.specs.Resuming.{entered}
use Rattle.transfer_steps.specs.Numbered.{IsHeadInRange}
use Rattle.owner_domain.specs.Slots.{met_numbers}
use Rattle.transfer_steps.proofs.NumberedSteps.{met-state, met-state-in}
use Rattle.transfer_steps.proofs.meeting.go_on.Goals as goal

pub returns-in_ok-copied-clause-next : goal.returns-in_ok-copied-clause-next
returns-in_ok-copied-clause-next c = λ table once low head.
    let here = c.args.state.now in
    let left = c.in-Some.left in
    met-state table once here left low (subst (IsHeadInRange table) c.in-Some.is head) c.meet.new.self
    (c.meet.ensures.state ∙ ap (met_numbers here) c.in_ok-copied.ensures)
    ∙ sym (ap (λ (o : Option NumberedState). entered (option_map (read_state table) o) (read_state table here))
    c.in-Some.is)

pub returns-in_ok-copied-clause-numbers : goal.returns-in_ok-copied-clause-numbers
returns-in_ok-copied-clause-numbers c = λ table once low head.
    let here = c.args.state.now in
    let left = c.in-Some.left in
    met-state-in table once here left low (subst (IsHeadInRange table) c.in-Some.is head) c.meet.new.self
    (c.meet.ensures.state ∙ ap (met_numbers here) c.in_ok-copied.ensures)
