use Rattle.std.proofs.Common.{map, drop}
use Rattle.core_code.specs.Tree.{tree_of, in_sequence}
use Rattle.core_ways.specs.Exits.{IsExit}
use Rattle.core_ways.proofs.returning.+leaving.Given as goal

-- how what stands behind is left
abbrev pub invariant-exit_among-loop-place : goal.invariant-exit_among-loop-place
invariant-exit_among-loop-place l = IsExit (in_sequence (map tree_of (drop l.place l.codes))) l.exit
