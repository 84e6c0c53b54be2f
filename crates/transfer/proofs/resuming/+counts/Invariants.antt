use Rattle.std.proofs.Common.{◌≡◌, ◌+◌, map, drop}
use Rattle.core_code.specs.Tree.{tree_of, in_sequence}
use Rattle.transfer_loops.specs.Resuming.{loops}
use Rattle.transfer.proofs.resuming.+counts.Given as goal

abbrev pub invariant-count_all-loop-part : goal.invariant-count_all-loop-part
invariant-count_all-loop-part l = l.count + loops (in_sequence (map tree_of (drop l.part-index l.parts))) ≡ loops
    (in_sequence (map tree_of l.parts))
