use Rattle.racer_base.proofs.Lists.{ended}
use Rattle.std.proofs.Common.{refl}
use Rattle.container_cells.specs.declared.cell.Containers.TheVariants.{WithCells}
use Rattle.core_lowering_rules.specs.Cells.{contents}
use Rattle.core_lowering_surveys.proofs.program_fields.push_contents.Goals as goal

pub returns : goal.returns
returns c =
    ended (contents WithCells) c.args.infos.now c.loop-info.info-index c.loop-info.fields _ refl
    c.loop-info-test.false c.loop-info.invariant
