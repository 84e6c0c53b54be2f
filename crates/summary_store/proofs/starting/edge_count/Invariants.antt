use Rattle.std.proofs.Common.{◌≡◌, take, length}
use Rattle.core_code.specs.CalleeRows.{rows_in}
use Rattle.core_code.specs.Counting.{weigh}
use Rattle.core_code.specs.Chains.{row_of}
use Rattle.summary_store.proofs.starting.edge_count.Given as goal

abbrev pub invariant-loop-i : goal.invariant-loop-i
invariant-loop-i l = l.count ≡ weigh (λ m. length (row_of (rows_in l.rows) m)) (take l.i l.methods)
