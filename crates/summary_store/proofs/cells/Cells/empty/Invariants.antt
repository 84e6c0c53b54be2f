use Rattle.std.proofs.Common.{◌≡◌, ◌≤◌, length, vec_capacity}
use Rattle.summary_store.proofs.cells.Cells.empty.Given as goal

abbrev pub invariant-loop-i : goal.invariant-loop-i
invariant-loop-i g l = record {
  count : length l.cells.items ≡ l._i;
  room : l.places ≤ vec_capacity l.cells;
}
