use Rattle.std.proofs.Common.{◌≡◌, ◌++◌, drop}
use Rattle.container_cells.specs.declared.cell.Containers.TheVariants.{WithCells}
use Rattle.core_lowering_rules.specs.Cells.{contents}
use Rattle.core_lowering_surveys.proofs.program_fields.push_contents.Given as goal

abbrev pub invariant-loop-info : goal.invariant-loop-info
invariant-loop-info l =
    l.fields ++ contents WithCells (drop l.info-index l.infos) ≡ l.fn.fields ++ contents WithCells l.infos
