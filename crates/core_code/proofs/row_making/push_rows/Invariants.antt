use Rattle.std.proofs.Common.{◌≡◌, ◌+◌, ◌++◌, map, drop}
use Rattle.core_code.specs.CalleeRows.{different}
use Rattle.core_code.specs.Gathered.{callee_rows}
use Rattle.core_code.specs.Stamps.{AreBelow}
use Rattle.core_code.proofs.row_making.push_rows.Given as goal

-- the rows so far, and those of the methods that are left
abbrev pub invariant-loop-number : goal.invariant-loop-number
invariant-loop-number l = record {
  rows : l.rows.items ++ map different (callee_rows (drop l.number l.methods)) ≡
      l.fn.rows.items ++ map different (callee_rows l.methods);
  stamps : AreBelow l.stamps.items (l.number + 1);
}
