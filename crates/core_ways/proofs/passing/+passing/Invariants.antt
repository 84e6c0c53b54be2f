use Rattle.std.proofs.Common.{◌≡◌, ◌++◌, map, drop}
use Rattle.core_code.specs.Tree.{tree_of, in_sequence, can_end}
use Rattle.core_ways.specs.Ways.{passed}
use Rattle.core_ways.proofs.passing.+passing.Given as goal

-- what was passed so far, and then what is left, is the whole
abbrev pub invariant-pass_through-loop-code : goal.invariant-pass_through-loop-code
invariant-pass_through-loop-code l =
    let left = in_sequence (map tree_of (drop l.code-index l.codes)) in
    let whole = in_sequence (map tree_of l.codes) in
    record {
      ends : can_end left ≡ can_end whole;
      parts : l.parts.items ++ passed l.locks left ≡ l.fn.parts.items ++ passed l.locks whole;
    }
