use Rattle.core_code.specs.Program.{core}
use Rattle.core_semantics.proofs.FieldKinds.{kind_at, no_kind}
use Rattle.core_semantics.proofs.inner.kind_of.Goals as goal

pub returns-in-Some : goal.returns-in-Some
returns-in-Some c =
    kind_at c.fields.result.now (core c.args.program.now).fields c.args.f c.in-Some.field.now c.fields.ensures
    c.in-Some.ensures.lookup.0 c.in-Some.ensures.lookup.1

pub returns-in-None : goal.returns-in-None
returns-in-None c =
    no_kind c.fields.result.now (core c.args.program.now).fields c.args.f c.fields.ensures c.in-None.ensures.lookup.0
