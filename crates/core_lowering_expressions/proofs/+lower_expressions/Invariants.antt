use Rattle.std.proofs.Common.{◌≡◌, ◌+◌, ◌*◌, ◌++◌, [], max, map, drop, length}
use denote.Param.Weighed.{most}
use Rattle.java_tree.specs.declared.expressions.Expression.{size-Expression}
use Rattle.core_lowering_rules.specs.Trees.{pack_exprs, pack_inits}
use Rattle.core_lowering_rules.specs.TreesOf.{expr_of, init_of}
use Rattle.core_lowering_rules.specs.Expressions.{passed, items_code}
use Rattle.core_lowering_context.specs.Drafts.{code_of}
use Rattle.core_lowering_expressions.proofs.+lower_expressions.Given as goal

abbrev pub invariant-invocations::lower_values-loop-value : goal.invariant-invocations::lower_values-loop-value
invariant-invocations::lower_values-loop-value l =
    code_of l.draft ++ passed l.context [] (pack_exprs (map expr_of (drop l.value-index l.values)))
    ≡ code_of l.initial.draft ++ passed l.context [] (pack_exprs (map expr_of l.values))

abbrev pub invariant-invocations::lower_arguments-loop-argument :
    goal.invariant-invocations::lower_arguments-loop-argument
invariant-invocations::lower_arguments-loop-argument l =
    let i = length l.yielded in
    code_of l.draft ++ passed l.context (drop i l.kinds) (pack_exprs (map expr_of (drop i l.arguments)))
    ≡ code_of l.initial.draft ++ passed l.context l.kinds (pack_exprs (map expr_of l.arguments))

abbrev pub invariant-expressions::lower_array-loop-item : goal.invariant-expressions::lower_array-loop-item
invariant-expressions::lower_array-loop-item l =
    code_of l.draft ++ items_code l.context (pack_inits (map init_of (drop l.item-index l.items)))
    ≡ code_of l.initial.draft ++ items_code l.context (pack_inits (map init_of l.items))

-- the deepest part comes first, and of functions on one part the outer one
abbrev pub decreases-expressions::lower_storage : goal.decreases-expressions::lower_storage
decreases-expressions::lower_storage l = 8 * goal.size-expressions::lower_storage l + 0

abbrev pub decreases-expressions::lower_read : goal.decreases-expressions::lower_read
decreases-expressions::lower_read l = 8 * goal.size-expressions::lower_read l + 1

abbrev pub decreases-expressions::lower_expression : goal.decreases-expressions::lower_expression
decreases-expressions::lower_expression l = 8 * goal.size-expressions::lower_expression l + 2

abbrev pub decreases-expressions::lower_selected : goal.decreases-expressions::lower_selected
decreases-expressions::lower_selected l = 8 * goal.size-expressions::lower_selected l + 3

abbrev pub decreases-expressions::lower_prefix : goal.decreases-expressions::lower_prefix
decreases-expressions::lower_prefix l = 8 * goal.size-expressions::lower_prefix l + 4

abbrev pub decreases-expressions::lower_cast : goal.decreases-expressions::lower_cast
decreases-expressions::lower_cast l = 8 * goal.size-expressions::lower_cast l + 3

abbrev pub decreases-invocations::lower_arguments : goal.decreases-invocations::lower_arguments
decreases-invocations::lower_arguments l = 8 * goal.size-invocations::lower_arguments l + 4

abbrev pub decreases-invocations::lower_values : goal.decreases-invocations::lower_values
decreases-invocations::lower_values l = 8 * goal.size-invocations::lower_values l + 3

abbrev pub decreases-invocations::lower_call : goal.decreases-invocations::lower_call
decreases-invocations::lower_call l = 8 * goal.size-invocations::lower_call l + 5

abbrev pub decreases-invocations::lower_new : goal.decreases-invocations::lower_new
decreases-invocations::lower_new l = 8 * goal.size-invocations::lower_new l + 5

abbrev pub decreases-expressions::lower_lengths : goal.decreases-expressions::lower_lengths
decreases-expressions::lower_lengths l = 8 * goal.size-expressions::lower_lengths l + 4

abbrev pub decreases-expressions::lower_initialiser : goal.decreases-expressions::lower_initialiser
decreases-expressions::lower_initialiser l = 8 * goal.size-expressions::lower_initialiser l + 0

abbrev pub decreases-expressions::lower_array : goal.decreases-expressions::lower_array
decreases-expressions::lower_array l = 8 * goal.size-expressions::lower_array l + 2

abbrev pub decreases-expressions::lower_element : goal.decreases-expressions::lower_element
decreases-expressions::lower_element l = 8 * (max (size-Expression l.a.now) (size-Expression l.i.now)) + 3

abbrev pub decreases-expressions::lower_assign : goal.decreases-expressions::lower_assign
decreases-expressions::lower_assign l = 8 * (max (size-Expression l.a.now) (size-Expression l.b.now)) + 4

abbrev pub decreases-expressions::lower_operator : goal.decreases-expressions::lower_operator
decreases-expressions::lower_operator l = 8 * (max (size-Expression l.a.now) (size-Expression l.b.now)) + 4

abbrev pub decreases-expressions::lower_conditional : goal.decreases-expressions::lower_conditional
decreases-expressions::lower_conditional l =
    8 * (max (size-Expression l.c.now) (max (size-Expression l.a.now) (size-Expression l.b.now))) + 3

abbrev pub decreases-invocations::lower_touching_call : goal.decreases-invocations::lower_touching_call
decreases-invocations::lower_touching_call l = 8 * goal.size-invocations::lower_touching_call l + 4

abbrev pub decreases-invocations::lower_call_on_access : goal.decreases-invocations::lower_call_on_access
decreases-invocations::lower_call_on_access l =
    8 * (max (size-Expression l.e.now) (most size-Expression l.arguments.now)) + 6

abbrev pub decreases-invocations::lower_call_on : goal.decreases-invocations::lower_call_on
decreases-invocations::lower_call_on l = 8 * (max (size-Expression l.e.now) (most size-Expression l.arguments.now)) + 7

abbrev pub decreases-invocations::lower_body : goal.decreases-invocations::lower_body
decreases-invocations::lower_body l = 8 * goal.size-invocations::lower_body l + 4

abbrev pub decreases-expressions::lower_referred : goal.decreases-expressions::lower_referred
decreases-expressions::lower_referred l = 8 * goal.size-expressions::lower_referred l + 3

abbrev pub decreases-expressions::lower_reference : goal.decreases-expressions::lower_reference
decreases-expressions::lower_reference l = 8 * goal.size-expressions::lower_reference l + 1

abbrev pub decreases-invocations::lower_called : goal.decreases-invocations::lower_called
decreases-invocations::lower_called l = 8 * goal.size-invocations::lower_called l + 0

abbrev pub decreases-invocations::lower_made : goal.decreases-invocations::lower_made
decreases-invocations::lower_made l = 8 * goal.size-invocations::lower_made l + 0
