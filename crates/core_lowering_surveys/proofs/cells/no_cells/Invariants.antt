use Rattle.std.proofs.Common.{◌≡◌, ◌++◌, map, drop}
use Rattle.core_lowering_rules.specs.Cells.{no_cell}
use Rattle.core_lowering_surveys.proofs.cells.no_cells.Given as goal

abbrev pub invariant-loop-field : goal.invariant-loop-field
invariant-loop-field l =
    l.cells.items ++ map no_cell (drop l._field-index l.fields) ≡ map no_cell l.fields
