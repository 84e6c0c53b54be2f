use Rattle.core_lowering_context.specs.Views.{folder_of}
use Rattle.core_lowering_context.specs.Sources.{source_of}
use Rattle.core_lowering_methods.proofs.MethodCode.{default-made}
use Rattle.core_lowering_methods.proofs.bodies.lower_default.Goals as goal

pub returns-clause-code : goal.returns-clause-code
returns-clause-code c =
    default-made (folder_of c.args.table.now c.args.cells.now c.args.statuses.now)
    (source_of c.args.source.now) c.in_ok-context.context c.in_ok-fields.fields c.in_ok-last.last _ _ _ _ c.in_ok-context.ensures
    c.in_ok-fields.ensures c.in_ok-last.ensures.code
    c.new-written.ensures c.in_ok-write_all.ensures c.in_ok-write_end.ensures c.into_code.ensures
