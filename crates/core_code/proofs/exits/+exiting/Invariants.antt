use Rattle.std.proofs.Common.{◌≡◌, map, drop}
use Rattle.core_code.specs.Tree.{tree_of, in_sequence}
use Rattle.core_code.specs.Exits.{exits_of, exits_then}
use Rattle.core_code.proofs.exits.+exiting.Given as goal

-- what was come to so far, and then what is left, is the whole
abbrev pub invariant-exits_through-loop-code : goal.invariant-exits_through-loop-code
invariant-exits_through-loop-code l =
    exits_then l.exits (exits_of (in_sequence (map tree_of (drop l.code-index l.codes)))) ≡
    exits_of (in_sequence (map tree_of l.codes))
