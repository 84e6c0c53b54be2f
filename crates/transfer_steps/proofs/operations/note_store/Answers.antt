use Rattle.owner_domain.specs.Values.{names_of}
use Rattle.owner_domain.specs.Numbered.{read_value}
use Rattle.transfer_steps.specs.Numbered.{read_found}
use Rattle.transfer_steps.proofs.Flows.{stopped-names, marked-names}
use Rattle.transfer_steps.proofs.NumberedSteps.{names-kept}
use Rattle.transfer_steps.proofs.operations.note_store.Goals as goal

pub returns-in-Err-clause-found : goal.returns-in-Err-clause-found
returns-in-Err-clause-found c = λ table once low field value.
    stopped-names (read_found table c.args.found.now) (names_of (read_value table c.args.field))
    (names_of (read_value table c.args.value)) c.in-Err.stop (c.in-Err.ensures.found table once low field)

pub returns-clause-found : goal.returns-clause-found
returns-clause-found c = λ table once low field value.
    marked-names (read_found table c.args.found.now) (read_found table c.note_name.new.self)
    (read_found table c.note_name-2.new.self) (names_of (read_value table c.args.field))
    (names_of (read_value table c.args.value)) c.note_name-2.result (c.in-Ok.ensures.found table once low field)
    (c.note_name-2.ensures.found table once (c.in-Ok.ensures.numbers table once low field) value)

pub returns-clause-numbers : goal.returns-clause-numbers
returns-clause-numbers c =
    names-kept c.note_name-2.result c.args.found.now c.note_name.new.self c.note_name-2.new.self c.args.field
    c.args.value c.in-Ok.ensures.numbers c.note_name-2.ensures.numbers
