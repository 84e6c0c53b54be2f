use Rattle.std.proofs.Common.{map, drop}
use Rattle.core_code.specs.Tree.{in_sequence, tree_of}
use Rattle.typed_core.specs.Check.{next_of, rounds_of}
use Rattle.typed_core.proofs.Walking.{IsOnTheWay}
use Rattle.typed_core.proofs.Rounding.{IsAtRound}
use Rattle.typed_core.proofs.check.+codes.Given as goal

abbrev pub invariant-check_all-loop-part : goal.invariant-check_all-loop-part
invariant-check_all-loop-part l =
    IsOnTheWay l.context (in_sequence (map tree_of (drop l.part-index l.parts))) (in_sequence (map tree_of l.parts))
    (next_of l.reached l.fn.here) (next_of l.goes_on l.here) l.fn.walk l.walk

abbrev pub invariant-check_rounds-loop-round : goal.invariant-check_rounds-loop-round
invariant-check_rounds-loop-round l =
    IsAtRound l.context (tree_of l.body) (rounds_of l.fn.here) l.round l.fn.here l.here l.fn.walk l.walk
