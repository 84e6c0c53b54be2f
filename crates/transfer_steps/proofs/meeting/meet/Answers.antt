use Rattle.std.proofs.Common.{◌∙◌, Ok, Err}
use Rattle.transfer_steps.specs.Numbered.{read_found}
use Rattle.owner_domain.proofs.MetValues.{kept-numbered}
use Rattle.transfer_steps.proofs.NumberedSteps.{met-state, met-state-in, met-below, met-marked}
use Rattle.transfer_steps.proofs.meeting.meet.Goals as goal

pub returns-in-Ok-note_numbers-clause-unchanged : goal.returns-in-Ok-note_numbers-clause-unchanged
returns-in-Ok-note_numbers-clause-unchanged c =
    λ same. kept-numbered c.in-Ok.changed c.meet_losing.new.self c.args.state.now c.in-Ok.ensures.changed same

pub returns-in-Ok-note_numbers-clause-state : goal.returns-in-Ok-note_numbers-clause-state
returns-in-Ok-note_numbers-clause-state c = λ table is low.
    met-state table is.once c.args.state.now c.args.other is.state low c.meet_losing.new.self c.in-Ok.ensures.state

pub returns-in-Ok-note_numbers-clause-found : goal.returns-in-Ok-note_numbers-clause-found
returns-in-Ok-note_numbers-clause-found c = λ table is low.
    let here = c.args.state.now in
    let other = c.args.other in
    let lost = c.as_slice.ensures.value ∙ c.in-Ok.ensures.lost in
    met-marked table is.once here other is.state low (read_found table c.args.found.now)
    (read_found table c.note_numbers.new.self) c.as_slice.result.now (Ok c.in-Ok-note_numbers.field-0) lost
    (c.in-Ok-note_numbers.ensures.found table is.once is.noted
    (met-below table is.once here other is.state low c.as_slice.result.now lost))

pub returns-in-Ok-note_numbers-clause-numbers : goal.returns-in-Ok-note_numbers-clause-numbers
returns-in-Ok-note_numbers-clause-numbers c = λ table is low.
    let here = c.args.state.now in
    let other = c.args.other in
    let lost = c.as_slice.ensures.value ∙ c.in-Ok.ensures.lost in
    record {
      once = is.once;
      state = met-state-in table is.once here other is.state low c.meet_losing.new.self c.in-Ok.ensures.state;
      noted =
          c.in-Ok-note_numbers.ensures.numbers table is.once is.noted
          (met-below table is.once here other is.state low c.as_slice.result.now lost);
    }

pub returns-clause-found : goal.returns-clause-found
returns-clause-found c = λ table is low.
    let here = c.args.state.now in
    let other = c.args.other in
    let lost = c.as_slice.ensures.value ∙ c.in-Ok.ensures.lost in
    met-marked table is.once here other is.state low {X = Unit {0}} (read_found table c.args.found.now)
    (read_found table c.note_numbers.new.self) c.as_slice.result.now (Err c.in-Err.stop) lost
    (c.in-Err.ensures.found table is.once is.noted
    (met-below table is.once here other is.state low c.as_slice.result.now lost))
