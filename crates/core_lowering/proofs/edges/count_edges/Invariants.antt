use Rattle.std.proofs.Common.{◌≡◌, ◌+◌, drop, length}
use Rattle.core_code.specs.Stamps.{AreBelow}
use Rattle.core_lowering.specs.Calls.{edges}
use Rattle.core_lowering.proofs.edges.count_edges.Given as goal

abbrev pub invariant-loop-row : goal.invariant-loop-row
invariant-loop-row l =
    record {
      count : l.count + edges (drop l.row-index l.rows) ≡ edges l.rows;
      stamps : AreBelow l.stamps.items (l.stamp + 1);
      many : length l.stamps.items ≡ length l.rows;
    }
