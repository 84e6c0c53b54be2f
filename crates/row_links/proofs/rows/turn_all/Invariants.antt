use Rattle.std.proofs.Common.{◌≡◌, length}
use Rattle.row_links.specs.Lists.{list_at, spliced, node_count, HasEachOnce}
use Rattle.row_links.specs.Cells.{AreTold}
use Rattle.row_links.proofs.rows.turn_all.Given as goal

abbrev pub invariant-loop-cell : goal.invariant-loop-cell
invariant-loop-cell l = record {
  each : HasEachOnce l.cells;
  rows : length l.cells ≡ length l.initial.cells;
  room : length l.list_of.items ≡ length l.initial.list_of.items;
  cell_count : node_count l.cells ≡ length l.initial.list_of.items;
  told : AreTold l.cells l.list_of.items;
  whole : spliced l.from l.to l.cells ≡ spliced l.from l.to l.initial.cells;
}

abbrev pub decreases-loop-cell : goal.decreases-loop-cell
decreases-loop-cell l = length (list_at l.cells l.from)
