use Rattle.std.proofs.Common.{◌≡◌, ◌++◌, drop}
use Rattle.core_code.specs.CalleeRows.{different}
use Rattle.core_code.specs.Stamps.{Tell, others}
use Rattle.core_code.proofs.row_making.different.Given as goal

-- the row so far, and the others among those that are left
abbrev pub invariant-loop-callee : goal.invariant-loop-callee
invariant-loop-callee l = record {
  row : l.row ++ others l.row (drop l.callee-index l.callees) ≡ different l.callees;
  stamps : Tell l.stamps l.stamp l.row;
}
