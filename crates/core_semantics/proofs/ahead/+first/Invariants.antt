use Rattle.std.proofs.Common.{◌≡◌, List, drop, map, slice_get}
use Rattle.core_code.specs.Tree.{tree_of, in_sequence}
use Rattle.core_semantics.specs.State.{Todo, before}
use Rattle.core_semantics.proofs.ahead.+first.Given as goal

abbrev pub invariant-first_of_parts-loop-part : goal.invariant-first_of_parts-loop-part
invariant-first_of_parts-loop-part l = (todo : List Todo) →
    slice_get (before (in_sequence (map tree_of (drop l.part-index l.parts))) todo) 0
    ≡ slice_get (before (in_sequence (map tree_of l.parts)) todo) 0
