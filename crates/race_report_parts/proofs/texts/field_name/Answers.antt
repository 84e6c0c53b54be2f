use Rattle.core_code.specs.declared.parts.FieldCore.{FieldCore}
use Rattle.core_code.specs.Program.{fields}
use Rattle.race_report_parts.proofs.LookUps.{name_found, no_name}
use Rattle.race_report_parts.proofs.texts.field_name.Goals as goal

pub returns-in-Some : goal.returns-in-Some
returns-in-Some c =
    name_found (λ (field : FieldCore). field.name) c.fields.result.now (fields c.args.program.now) c.args.field.0
    c.in-Some.field.now c.as_str.result.now c.fields.ensures c.in-Some.ensures.lookup.0 c.in-Some.ensures.lookup.1
    c.as_str.ensures

pub returns-in-None : goal.returns-in-None
returns-in-None c =
    no_name (λ (field : FieldCore). field.name) c.fields.result.now (fields c.args.program.now) c.args.field.0
    c.fields.ensures c.in-None.ensures.lookup.0
