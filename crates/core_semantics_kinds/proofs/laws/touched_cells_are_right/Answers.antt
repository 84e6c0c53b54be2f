use Rattle.core_semantics_kinds.proofs.CellsRight.{cells-right}
use Rattle.core_semantics_kinds.proofs.laws.touched_cells_are_right.Goals as goal

pub returns : goal.returns
returns c = cells-right
