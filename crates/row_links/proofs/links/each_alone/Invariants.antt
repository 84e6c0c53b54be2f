use Rattle.std.proofs.Common.{◌≡◌, ◌≤◌, vec_capacity}
use Rattle.std.specs.List.{range_with_len}
use Rattle.row_links.proofs.links.each_alone.Given as goal

abbrev pub invariant-loop-node : goal.invariant-loop-node
invariant-loop-node l = record {
  items : l.column.items ≡ range_with_len 0 l.node;
  room : l.nodes ≤ vec_capacity l.column;
}
