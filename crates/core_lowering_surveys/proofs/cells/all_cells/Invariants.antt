use Rattle.std.proofs.Common.{◌≡◌, ◌++◌, drop, length}
use Rattle.core_lowering_rules.specs.Cells.{cells_from}
use Rattle.core_lowering_surveys.proofs.cells.all_cells.Given as goal

abbrev pub invariant-loop-field : goal.invariant-loop-field
invariant-loop-field l =
    l.cells.items ++ cells_from l.next (drop l.field-index l.fields) ≡ cells_from (length l.fields) l.fields
