use Rattle.std.proofs.Common.{◌+◌, map, drop, slice_get, sym, ap, ◌∙◌}
use Rattle.core_code.specs.Tree.{Tree, tree_of, in_sequence}
use Rattle.core_code.proofs.PartsLeft.{parts-turn}
use Rattle.core_semantics.specs.State.{before}
use Rattle.core_semantics.proofs.ahead.+first.Goals as goal

pub first_of_parts-loop-part-preserved : goal.first_of_parts-loop-part-preserved
first_of_parts-loop-part-preserved t c = λ todo.
    let parts = c.args.parts.now in
    let i = c.loop-part.part-index in
    let rest = in_sequence (map tree_of (drop (i + 1) parts)) in
    sym (ap (λ (code : Tree). slice_get (before code todo) 0)
    (parts-turn parts i c.part-item.result c.loop-part-test.true c.part-item.is)
    ∙ c.in_default.ensures (before rest todo))
    ∙ c.loop-part.invariant todo

pub first_of_parts-returns-in-Some : goal.first_of_parts-returns-in-Some
first_of_parts-returns-in-Some t c = λ todo.
    let parts = c.args.parts.now in
    let i = c.loop-part.part-index in
    let rest = in_sequence (map tree_of (drop (i + 1) parts)) in
    sym (c.loop-part.invariant todo)
    ∙ ap (λ (code : Tree). slice_get (before code todo) 0)
    (parts-turn parts i c.part-item.result c.loop-part-test.true c.part-item.is)
    ∙ c.in-Some.ensures (before rest todo)
