use Rattle.std.proofs.Common.{ap, ◌∙◌}
use Rattle.core_lowering_rules.specs.Context.{Context}
use Rattle.core_lowering_rules.specs.Methods.{entered}
use Rattle.core_lowering_context.specs.Views.{folder_of}
use Rattle.core_lowering_context.specs.Sources.{source_of}
use Rattle.core_lowering_methods.proofs.MethodCode.{guards-kept}
use Rattle.core_lowering_methods.proofs.bodies.parts_of.Goals as goal

pub last_of-requires : goal.last_of-requires
last_of-requires c =
    ap (λ (context : Context). context.guards) c.requires
    ∙ guards-kept (entered (folder_of c.args.table.now c.args.cells.now c.args.statuses.now)
    (source_of c.args.source.now)) c.args.m.now.parameters
