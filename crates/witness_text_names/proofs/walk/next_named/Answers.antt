use Rattle.core_code.specs.Program.{core, fields}
use Rattle.witness_text_names.specs.Indexes.{reached_of}
use Rattle.witness_text_names.proofs.NextNamed.{field_there, next_is}
use Rattle.witness_text_names.proofs.walk.next_named.Goals as goal

pub returns : goal.returns
returns c =
    let program = c.args.program.now in
    next_is (core program) c.args.fields.now c.args.name.now (reached_of c.args.reached) (reached_of c.in_ok-next.next)
    c.class.result c.in_ok-number.number c.in_ok-field.field.now c.requires c.class.ensures c.in_ok-number.ensures
    (field_there c.fields.result.now (fields program) c.in_ok-number.number.0 c.in_ok-field.field.now c.fields.ensures
    c.in_ok-field.ensures.lookup.0 c.in_ok-field.ensures.lookup.1)
    c.in_ok-next.ensures
