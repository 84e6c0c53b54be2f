use Rattle.std.proofs.Common.{drop}
use Rattle.core_code.specs.CalleeRows.{different}
use Rattle.core_lowering.proofs.Counting.{Counted}
use Rattle.core_lowering.proofs.edges.count_different.Given as goal

abbrev pub invariant-loop-callee : goal.invariant-loop-callee
invariant-loop-callee l =
    Counted l.stamps l.stamp l.count (drop l.callee-index l.callees) (different l.callees)
