use Rattle.std.proofs.Common.{◌≡◌, ◌++◌, map, drop}
use Rattle.core_code.specs.Tree.{tree_of, in_sequence}
use Rattle.core_ways.specs.Paths.{followed}
use Rattle.core_ways.proofs.passing.+following.Given as goal

-- what was passed so far, and then what is left of the path, is the whole
abbrev pub invariant-follow_through-loop-code : goal.invariant-follow_through-loop-code
invariant-follow_through-loop-code l =
    l.parts.items ++ followed l.end l.locks l.path (in_sequence (map tree_of (drop l.code-index l.codes))) ≡
    l.fn.parts.items ++ followed l.end l.locks l.fn.path (in_sequence (map tree_of l.codes))
