use Rattle.std.proofs.Common.{◌≡◌, OnOk, IfOk, subst, true, false, [], ◌∷◌, ◌++◌, map, ◌∙◌, ap, sym, refl, length}
use Rattle.std.proofs.Common.{rules, ℕ, ◌<◌, ◌≤◌, List, drop, get_or, length-append, arith}
use denote.Param.Weighed.{most, at_most}
use Rattle.std.specs.Prelude.{min}
use Rattle.std.proofs.lemmas.Slice.Zip.{zip_end, zip_turn}
use Rattle.std.proofs.lemmas.List.{append-nil}
use Rattle.std.proofs.lemmas.Result.{on_ok_weaker, IfOk-weaker}
use Rattle.racer_base.specs.declared.ids.Kind.{Kind}
use Rattle.racer_base.specs.declared.ids.Kind.TheVariants.{Plain}
use Rattle.java_tree.specs.declared.expressions.Expression.{Expression, size-Expression}
use Rattle.java_tree.specs.declared.expressions.Expression.TheFolds.{the_lemmas}
use Rattle.java_tree.specs.declared.expressions.Expression.{out-Expression}
use Rattle.java_tree.specs.View.{ty_of}
use Rattle.java_resolver.specs.Meanings.{field_named}
use Rattle.core_code.specs.declared.code.Op.TheVariants.{Prim}
use Rattle.core_lowering_rules.specs.Trees.{Expr, Init, Selected, CallOn, Conditional, pack_exprs}
use Rattle.core_lowering_rules.specs.Trees.{count_exprs}
use Rattle.core_lowering_rules.specs.TreesOf.{access_of, expr_of, is_assignment, assignment, is_logical, binary}
use Rattle.core_lowering_rules.specs.TreesOf.{is_count, prefix, first_type}
use Rattle.core_lowering_rules.specs.ValueKinds.{Of, common_kind}
use Rattle.core_lowering_rules.specs.Context.{op, type_kind}
use Rattle.core_lowering_rules.specs.Expressions.{code, init_code, init_kind, kind, cast, storage, access_kind, passed}
use Rattle.core_lowering_rules.specs.Assignments.{of_class, of_value}
use Rattle.core_lowering_rules.specs.Calls.{result_kind}
use Rattle.core_lowering_expressions.specs.declared.calls.Target.TheVariants as target
use Rattle.core_lowering_context.specs.Drafts.{code_of}
use Rattle.core_lowering_context.specs.Views.{value_kind}
use Rattle.core_lowering_expressions.specs.Parts.{storage_kind, callee_seen, base_of, without_base, class_call_kind}
use Rattle.core_lowering_expressions.specs.Together.{target_kind}
use Rattle.core_lowering_expressions.proofs.ExpressionForms.{is_name_of, is_field, is_index, is_value}
use Rattle.core_lowering_expressions.proofs.OtherForms.{is_access, no-access}
use Rattle.core_lowering_expressions.proofs.Joined.{two, values-next, values-done, arguments-next, arguments-done}
use Rattle.core_lowering_expressions.proofs.Joined.{items-next, items-done, most-drop}
use Rattle.core_lowering_expressions.proofs.Made.{read-made, assign-made, assign-kind, counted-made, kind-made}
use Rattle.core_lowering_expressions.proofs.Made.{prefix-code, prefix-kind, operator-made, operator-kind}
use Rattle.core_lowering_expressions.proofs.Made.{selected-made, selected-same, class-selected, conditional-made}
use Rattle.core_lowering_expressions.proofs.Made.{call-made, call-kind, on-class, on-class-kind}
use Rattle.core_lowering_expressions.proofs.Made.{on-object, on-object-kind}
use Rattle.core_lowering_expressions.proofs.Made.{on-container, on-container-kind, on-access, on-access-kind}
use Rattle.core_lowering_expressions.proofs.Made.{touching-made}
use Rattle.core_lowering_expressions.proofs.TouchParts.{unstored-untouched}
use Rattle.core_lowering_expressions.proofs.Made.{new-made, body-made, lengths-made, items-made}
use Rattle.core_lowering_expressions.proofs.+lower_expressions.Goals as goal

pub expressions::lower_read-returns-clause-code : goal.expressions::lower_read-returns-clause-code
expressions::lower_read-returns-clause-code t c =
    let context = c.args.context.now in
    on_ok_weaker c.read.result
    (read-made context (storage context (access_of (expr_of c.args.e.now))) c.in_ok-storage.storage
    (code_of c.args.draft.now) (code_of c.lower_storage.new.draft) (code_of c.read.new.draft)
    c.in_ok-storage.ensures.code c.in_ok-storage.ensures.storage)
    c.read.ensures.code

pub expressions::lower_read-returns-clause-kind : goal.expressions::lower_read-returns-clause-kind
expressions::lower_read-returns-clause-kind t c =
    let context = c.args.context.now in
    let access = access_of (expr_of c.args.e.now) in
    IfOk-weaker c.read.result (λ k. value_kind k ≡ storage_kind c.in_ok-storage.storage)
    (λ k. value_kind k ≡ access_kind context access)
    (λ k. kind-made context access c.in_ok-storage.storage (value_kind k) c.in_ok-storage.ensures.storage)
    c.read.ensures.kind

pub expressions::lower_conditional-returns-clause-kind : goal.expressions::lower_conditional-returns-clause-kind
expressions::lower_conditional-returns-clause-kind t c =
    let context = c.args.context.now in
    let a = expr_of c.args.a.now in
    let b = expr_of c.args.b.now in
    let second = value_kind c.in_ok-second.second in
    IfOk-weaker c.end_conditional.result
    (λ k. value_kind k ≡ common_kind (value_kind c.in_ok-first.first) second)
    (λ k. value_kind k ≡ kind context (Conditional (expr_of c.args.c.now) a b))
    (λ k is. is ∙ ap (λ g. common_kind g second) c.in_ok-first.ensures.kind
    ∙ ap (λ g. common_kind (kind context a) g) c.in_ok-second.ensures.kind)
    c.end_conditional.ensures.kind

pub expressions::lower_element-returns-clause-code : goal.expressions::lower_element-returns-clause-code
expressions::lower_element-returns-clause-code t c =
    let context = c.args.context.now in
    two (code_of c.args.draft.now) (code_of c.lower_expression.new.draft) (code_of c.lower_expression-2.new.draft)
    (code context (expr_of c.args.a.now)) (code context (expr_of c.args.i.now)) c.in_ok-lower_expression.ensures.code
    c.in_ok-lower_expression-2.ensures.code

pub expressions::lower_cast-returns-clause-code : goal.expressions::lower_cast-returns-clause-code
expressions::lower_cast-returns-clause-code t c =
    let context = c.args.context.now in
    let one = code_of c.lower_expression.new.draft in
    on_ok_weaker c.cast.result
    (λ made. two (code_of c.args.draft.now) one (code_of c.cast.new.draft) (code context (expr_of c.args.a.now))
    (cast context (type_kind context (first_type c.args.types.now))) c.in_ok-lower_expression.ensures.code
    (made ∙ ap (λ k. one ++ cast context k) c.cast_kind.ensures))
    c.cast.ensures.code

pub expressions::lower_cast-returns-clause-kind : goal.expressions::lower_cast-returns-clause-kind
expressions::lower_cast-returns-clause-kind t c =
    IfOk-weaker c.cast.result (λ k. value_kind k ≡ Of c.cast_kind.result)
    (λ k. value_kind k ≡ Of (type_kind c.args.context.now (first_type c.args.types.now)))
    (λ k is. is ∙ ap Of c.cast_kind.ensures) c.cast.ensures.kind

pub expressions::lower_conditional-returns-clause-code : goal.expressions::lower_conditional-returns-clause-code
expressions::lower_conditional-returns-clause-code t c =
    on_ok_weaker c.end_conditional.result
    (conditional-made c.args.context.now (expr_of c.args.c.now) (expr_of c.args.a.now) (expr_of c.args.b.now)
    (code_of c.args.draft.now) (code_of c.lower_expression.new.draft) (code_of c.begin_conditional.new.draft)
    (code_of c.lower_expression-2.new.draft) (code_of c.lower_expression-3.new.draft)
    (code_of c.end_conditional.new.draft) c.in_ok-left.left c.len-right.result c.in_ok-lower_expression.ensures.code
    c.in_ok-left.ensures.code c.in_ok-left.ensures.at c.in_ok-first.ensures.code c.len-right.ensures
    c.in_ok-second.ensures.code)
    c.end_conditional.ensures.code

pub invocations::lower_values-loop-value-preserved : goal.invocations::lower_values-loop-value-preserved
invocations::lower_values-loop-value-preserved t c =
    values-next c.args.context.now c.args.values.now c.loop-value.value-index c.value-item.result
    (code_of c.loop-value.draft) (code_of c.lower_expression.new.draft) _ c.loop-value-test.true c.value-item.is
    c.in_ok-lower_expression.ensures.code c.loop-value.invariant

pub invocations::lower_values-returns : goal.invocations::lower_values-returns
invocations::lower_values-returns t c =
    values-done c.args.context.now c.args.values.now (code_of c.loop-value.draft) _ c.loop-value.value-index
    c.loop-value-test.false c.loop-value.invariant

pub invocations::lower_arguments-loop-argument-preserved : goal.invocations::lower_arguments-loop-argument-preserved
invocations::lower_arguments-loop-argument-preserved t c =
    let arguments = c.args.arguments.now in
    let kinds = c.args.kinds.now in
    let context = c.args.context.now in
    let i = length c.loop-argument.yielded in
    let argument = c.in-Some.argument in
    let kind = c.in-Some.kind in
    let at : (i < length arguments) × (i < length kinds) × ((d : Expression) → argument.now ≡ get_or arguments i d)
    × ((d : Kind) → kind.now ≡ get_or kinds i d) =
    zip_turn arguments kinds c.loop-argument.yielded c.into_iter-argument-iterator.result
    c.loop-argument.argument-iterator c.next.new.self c.next.result (search rules) (search rules)
    c.loop-argument.yielded_by (argument, kind) c.in-Some.is c.next.ensures.steps in
    subst (λ (n : ℕ). code_of c.convert.new.draft
    ++ passed context (drop n kinds) (pack_exprs (map expr_of (drop n arguments)))
    ≡ code_of c.args.draft.now ++ passed context kinds (pack_exprs (map expr_of arguments)))
    (sym (length-append c.loop-argument.yielded ((argument, kind) ∷ [])))
    (arguments-next context kinds arguments i argument.now kind.now (code_of c.loop-argument.draft)
    (code_of c.lower_expression.new.draft) (code_of c.convert.new.draft) _ (value_kind c.in_ok-given.given) at.0 at.1
    (at.2 argument.now) (at.3 kind.now) c.in_ok-given.ensures.code c.in_ok-given.ensures.kind
    c.in_ok-convert.ensures.code c.loop-argument.invariant)

pub invocations::lower_arguments-lower_expression-requires : goal.invocations::lower_arguments-lower_expression-requires
invocations::lower_arguments-lower_expression-requires t c =
    let arguments = c.args.arguments.now in
    let kinds = c.args.kinds.now in
    let i = length c.loop-argument.yielded in
    let argument = c.in-Some.argument in
    let at : (i < length arguments) × (i < length kinds) × ((d : Expression) → argument.now ≡ get_or arguments i d)
    × ((d : Kind) → c.in-Some.kind.now ≡ get_or kinds i d) =
    zip_turn arguments kinds c.loop-argument.yielded c.into_iter-argument-iterator.result
    c.loop-argument.argument-iterator c.next.new.self c.next.result (search rules) (search rules)
    c.loop-argument.yielded_by (argument, c.in-Some.kind) c.in-Some.is c.next.ensures.steps in
    let within : size-Expression argument.now ≤ most size-Expression arguments =
    subst (λ (e : Expression). size-Expression e ≤ most size-Expression arguments) (sym (at.2 argument.now))
    (at_most size-Expression arguments i argument.now at.0) in
    (omega (arith, within, c.decreases), tt)

pub invocations::lower_arguments-lower_values-requires : goal.invocations::lower_arguments-lower_values-requires
invocations::lower_arguments-lower_values-requires t c =
    let arguments = c.args.arguments.now in
    let further = c.further_arguments-further.result.now in
    let within : most size-Expression further ≤ most size-Expression arguments =
    subst (λ (es : List Expression). most size-Expression es ≤ most size-Expression arguments)
    (sym c.further_arguments-further.ensures) (most-drop size-Expression (length c.args.kinds.now) arguments) in
    (omega (arith, within, c.decreases), tt)

pub invocations::lower_arguments-returns : goal.invocations::lower_arguments-returns
invocations::lower_arguments-returns t c =
    let arguments = c.args.arguments.now in
    let kinds = c.args.kinds.now in
    let end : length c.loop-argument.yielded ≡ min (length arguments) (length kinds) =
    zip_end arguments kinds c.loop-argument.yielded c.into_iter-argument-iterator.result
    c.loop-argument.argument-iterator c.next.new.self c.next.result (search rules) (search rules)
    c.loop-argument.yielded_by c.in-None.is c.next.ensures.steps in
    on_ok_weaker c.lower_values.result
    (λ made. arguments-done c.args.context.now kinds arguments c.further_arguments-further.result.now
    (code_of c.loop-argument.draft) (code_of c.lower_values.new.draft) _ (length c.loop-argument.yielded) end
    c.further_arguments-further.ensures made c.loop-argument.invariant)
    c.lower_values.ensures

pub invocations::lower_new-returns-clause-code : goal.invocations::lower_new-returns-clause-code
invocations::lower_new-returns-clause-code t c =
    on_ok_weaker c.finish_new.result
    (new-made c.args.context.now c.args.place (ty_of c.args.t.now) c.in_ok-maker.maker c.args.arguments.now
    c.made_kinds-kinds.result.now c.in_ok-count.count c.in_ok-count.count (code_of c.args.draft.now)
    (code_of c.begin_new.new.draft) (code_of c.lower_arguments.new.draft) (code_of c.finish_new.new.draft)
    c.in_ok-count.ensures c.in_ok-count.ensures
    c.in_ok-maker.ensures.maker c.in_ok-maker.ensures.code c.made_kinds-kinds.ensures
    c.in_ok-lower_arguments.ensures)
    c.finish_new.ensures.code

pub expressions::lower_lengths-returns-clause-code : goal.expressions::lower_lengths-returns-clause-code
expressions::lower_lengths-returns-clause-code t c =
    on_ok_weaker c.new_array.result
    (lengths-made c.args.context.now c.args.place c.args.lengths.now (length c.args.lengths.now) (code_of
    c.args.draft.now)
    (code_of c.lower_values.new.draft) (code_of c.new_array.new.draft) refl
    c.in_ok-lower_values.ensures)
    c.new_array.ensures.code

pub expressions::lower_selected-returns-in-Some-clause-code :
    goal.expressions::lower_selected-returns-in-Some-clause-code
expressions::lower_selected-returns-in-Some-clause-code t c =
    on_ok_weaker c.of_class.result
    (λ made. made ∙ ap (λ s. code_of c.args.draft.now ++ base_of s)
    (class-selected c.args.context.now (expr_of c.args.a.now) c.args.x.now c.in-Some.c c.in-Some.ensures))
    c.of_class.ensures.code

pub expressions::lower_selected-returns-in-Some-clause-storage :
    goal.expressions::lower_selected-returns-in-Some-clause-storage
expressions::lower_selected-returns-in-Some-clause-storage t c =
    let context = c.args.context.now in
    let a = expr_of c.args.a.now in
    let x = c.args.x.now in
    IfOk-weaker c.of_class.result
    (λ s. s ≡ without_base (of_class context c.in-Some.c x
    (field_named context.folder.fields c.in-Some.c true x.text)))
    (λ s. s ≡ without_base (storage context (Selected a x)))
    (λ s is. is ∙ ap without_base (class-selected context a x c.in-Some.c c.in-Some.ensures))
    c.of_class.ensures.storage

pub expressions::lower_selected-returns-clause-code : goal.expressions::lower_selected-returns-clause-code
expressions::lower_selected-returns-clause-code t c =
    on_ok_weaker c.of_value.result
    (selected-made c.args.context.now (expr_of c.args.a.now) c.args.x.now (value_kind c.in_ok-kind.kind)
    (code_of c.args.draft.now) (code_of c.lower_expression.new.draft) (code_of c.of_value.new.draft)
    c.in_default.ensures c.in_ok-kind.ensures.code c.in_ok-kind.ensures.kind)
    c.of_value.ensures.code

pub expressions::lower_selected-returns-clause-storage : goal.expressions::lower_selected-returns-clause-storage
expressions::lower_selected-returns-clause-storage t c =
    let context = c.args.context.now in
    let a = expr_of c.args.a.now in
    let x = c.args.x.now in
    let k = value_kind c.in_ok-kind.kind in
    IfOk-weaker c.of_value.result (λ s. s ≡ without_base (of_value context k [] x))
    (λ s. s ≡ without_base (storage context (Selected a x)))
    (λ s. selected-same context a x k s c.in_default.ensures c.in_ok-kind.ensures.kind)
    c.of_value.ensures.storage

pub expressions::lower_storage-returns-in_default-clause-code :
    goal.expressions::lower_storage-returns-in_default-clause-code
expressions::lower_storage-returns-in_default-clause-code t c =
    let other : is_access (out-Expression c.args.e.now) ≡ false = search (rules, the_lemmas) in
    let old = code_of c.args.draft.now in
    sym (append-nil old)
    ∙ ap (λ a. old ++ base_of (storage c.args.context.now a)) (no-access c.args.e.now other)

pub expressions::lower_storage-returns-in_default-clause-storage :
    goal.expressions::lower_storage-returns-in_default-clause-storage
expressions::lower_storage-returns-in_default-clause-storage t c =
    let other : is_access (out-Expression c.args.e.now) ≡ false = search (rules, the_lemmas) in
    ap (λ a. without_base (storage c.args.context.now a)) (no-access c.args.e.now other)

pub expressions::lower_assign-returns-clause-code : goal.expressions::lower_assign-returns-clause-code
expressions::lower_assign-returns-clause-code t c =
    on_ok_weaker c.end_assign.result
    (assign-made c.args.context.now c.args.op.now (access_of (expr_of c.args.a.now)) (expr_of c.args.b.now)
    c.in_ok-target.target (value_kind c.in_ok-given.given) (code_of c.args.draft.now)
    (code_of c.lower_storage.new.draft) (code_of c.begin_assign.new.draft) (code_of c.lower_expression.new.draft)
    (code_of c.end_assign.new.draft) c.in_ok-target.ensures.code c.in_ok-target.ensures.storage
    c.in_ok-begin_assign.ensures c.in_ok-given.ensures.code c.in_ok-given.ensures.kind)
    c.end_assign.ensures.code

pub expressions::lower_assign-returns-clause-kind : goal.expressions::lower_assign-returns-clause-kind
expressions::lower_assign-returns-clause-kind t c =
    let context = c.args.context.now in
    let access = access_of (expr_of c.args.a.now) in
    let b = expr_of c.args.b.now in
    IfOk-weaker c.end_assign.result (λ k. value_kind k ≡ storage_kind c.in_ok-target.target)
    (λ k. value_kind k ≡ kind context (assignment c.args.op.now access b))
    (λ k is. kind-made context access c.in_ok-target.target (value_kind k) c.in_ok-target.ensures.storage is
    ∙ assign-kind context (is_assignment c.args.op.now) access b)
    c.end_assign.ensures.kind

pub expressions::lower_operator-returns-clause-code : goal.expressions::lower_operator-returns-clause-code
expressions::lower_operator-returns-clause-code t c =
    on_ok_weaker c.end_operator.result
    (operator-made c.args.context.now c.args.op.now (expr_of c.args.a.now) (expr_of c.args.b.now)
    (code_of c.args.draft.now) (code_of c.lower_expression.new.draft) (code_of c.begin_operator.new.draft)
    (code_of c.lower_expression-2.new.draft) (code_of c.end_operator.new.draft) c.in_ok-at.at
    c.in_ok-lower_expression.ensures.code c.in_ok-at.ensures.code c.in_ok-at.ensures.at
    c.in_ok-lower_expression-2.ensures.code)
    c.end_operator.ensures.code

pub expressions::lower_operator-returns-clause-kind : goal.expressions::lower_operator-returns-clause-kind
expressions::lower_operator-returns-clause-kind t c =
    let context = c.args.context.now in
    let a = expr_of c.args.a.now in
    let b = expr_of c.args.b.now in
    IfOk-weaker c.end_operator.result (λ k. value_kind k ≡ Of Plain)
    (λ k. value_kind k ≡ kind context (binary c.args.op.now a b))
    (λ k is. is ∙ operator-kind context (is_logical c.args.op.now) a b)
    c.end_operator.ensures.kind

pub expressions::lower_prefix-returns-then-is_count-clause-code :
    goal.expressions::lower_prefix-returns-then-is_count-clause-code
expressions::lower_prefix-returns-then-is_count-clause-code t c =
    let context = c.args.context.now in
    let a = expr_of c.args.a.now in
    on_ok_weaker c.count_value.result
    (λ made. counted-made context (storage context (access_of a)) c.in_ok-storage.storage
    (code_of c.args.draft.now) (code_of c.lower_storage.new.draft) (code_of c.count_value.new.draft)
    c.in_ok-storage.ensures.code c.in_ok-storage.ensures.storage made
    ∙ ap (λ x. code_of c.args.draft.now ++ x)
    (prefix-code context c.args.op.now a true (sym c.is_count.ensures ∙ c.if-is_count.true)))
    c.count_value.ensures.code

pub expressions::lower_prefix-returns-then-is_count-clause-kind :
    goal.expressions::lower_prefix-returns-then-is_count-clause-kind
expressions::lower_prefix-returns-then-is_count-clause-kind t c =
    let context = c.args.context.now in
    let a = expr_of c.args.a.now in
    IfOk-weaker c.count_value.result (λ k. value_kind k ≡ Of Plain)
    (λ k. value_kind k ≡ kind context (prefix c.args.op.now a))
    (λ k is. is ∙ prefix-kind context (is_count c.args.op.now) a) c.count_value.ensures.kind

pub expressions::lower_prefix-returns-clause-code : goal.expressions::lower_prefix-returns-clause-code
expressions::lower_prefix-returns-clause-code t c =
    let context = c.args.context.now in
    let a = expr_of c.args.a.now in
    let old = code_of c.args.draft.now in
    on_ok_weaker c.prim.result
    (λ made. two old (code_of c.lower_expression.new.draft) (code_of c.prim.new.draft) (code context a)
    (op context (Prim 1)) c.in_ok-lower_expression.ensures.code made
    ∙ ap (λ x. old ++ x) (prefix-code context c.args.op.now a false (sym c.is_count.ensures ∙ c.if-is_count.false)))
    c.prim.ensures.code

pub expressions::lower_prefix-returns-clause-kind : goal.expressions::lower_prefix-returns-clause-kind
expressions::lower_prefix-returns-clause-kind t c =
    let context = c.args.context.now in
    let a = expr_of c.args.a.now in
    IfOk-weaker c.prim.result (λ k. value_kind k ≡ Of Plain)
    (λ k. value_kind k ≡ kind context (prefix c.args.op.now a))
    (λ k is. is ∙ prefix-kind context (is_count c.args.op.now) a) c.prim.ensures.kind

pub expressions::lower_array-loop-item-preserved : goal.expressions::lower_array-loop-item-preserved
expressions::lower_array-loop-item-preserved t c =
    items-next c.args.context.now c.args.items.now c.loop-item.item-index c.item-item.result
    (code_of c.loop-item.draft) (code_of c.lower_initialiser.new.draft) _ c.loop-item-test.true
    c.item-item.is c.in_ok-lower_initialiser.ensures.code c.loop-item.invariant

pub expressions::lower_array-returns-clause-code : goal.expressions::lower_array-returns-clause-code
expressions::lower_array-returns-clause-code t c =
    let context = c.args.context.now in
    let items = c.args.items.now in
    let done = items-done context items (code_of c.loop-item.draft) _ c.loop-item.item-index
    c.loop-item-test.false c.loop-item.invariant in
    on_ok_weaker c.new_array.result
    (items-made context c.args.place items (length items) (code_of c.args.draft.now) (code_of c.loop-item.draft)
    (code_of c.new_array.new.draft) refl done)
    c.new_array.ensures.code

pub invocations::lower_call-returns-clause-code : goal.invocations::lower_call-returns-clause-code
invocations::lower_call-returns-clause-code t c =
    on_ok_weaker c.finish_call.result
    (call-made c.args.context.now c.args.target c.args.x.now c.callee_on-callee.result c.args.arguments.now
    c.passed_kinds.result.now c.in_ok-count.count (code_of c.args.draft.now) (code_of c.begin_call.new.draft)
    (code_of c.lower_arguments.new.draft) (code_of c.finish_call.new.draft) c.in_ok-count.ensures
    c.callee_on-callee.ensures c.in_ok-begin_call.ensures c.passed_kinds.ensures c.in_ok-lower_arguments.ensures)
    c.finish_call.ensures.code

pub invocations::lower_call-returns-clause-kind : goal.invocations::lower_call-returns-clause-kind
invocations::lower_call-returns-clause-kind t c =
    let context = c.args.context.now in
    let es = pack_exprs (map expr_of c.args.arguments.now) in
    IfOk-weaker c.finish_call.result (λ k. value_kind k ≡ result_kind context (callee_seen c.callee_on-callee.result))
    (λ k. value_kind k ≡ target_kind context c.args.target c.args.x.now es)
    (λ k. call-kind context c.args.target c.args.x.now c.callee_on-callee.result c.args.arguments.now
    c.in_ok-count.count (value_kind k) c.in_ok-count.ensures c.callee_on-callee.ensures)
    c.finish_call.ensures.kind

pub invocations::lower_call_on-returns-in-Some-clause-code : goal.invocations::lower_call_on-returns-in-Some-clause-code
invocations::lower_call_on-returns-in-Some-clause-code t c =
    let es = pack_exprs (map expr_of c.args.arguments.now) in
    on_ok_weaker c.lower_call.result
    (λ made. made ∙ ap (λ x. code_of c.args.draft.now ++ x)
    (on-class c.args.context.now (expr_of c.args.e.now) c.args.x.now es c.in-Some.c c.in-Some.ensures))
    c.lower_call.ensures.code

pub invocations::lower_call_on-returns-in-Some-clause-kind : goal.invocations::lower_call_on-returns-in-Some-clause-kind
invocations::lower_call_on-returns-in-Some-clause-kind t c =
    let context = c.args.context.now in
    let e = expr_of c.args.e.now in
    let es = pack_exprs (map expr_of c.args.arguments.now) in
    IfOk-weaker c.lower_call.result (λ k. value_kind k ≡ class_call_kind context c.in-Some.c c.args.x.now es)
    (λ k. value_kind k ≡ kind context (CallOn e c.args.x.now es))
    (λ k is. is ∙ on-class-kind context e c.args.x.now es c.in-Some.c c.in-Some.ensures)
    c.lower_call.ensures.kind

pub invocations::lower_call_on-returns-clause-code : goal.invocations::lower_call_on-returns-clause-code
invocations::lower_call_on-returns-clause-code t c =
    let context = c.args.context.now in
    let e = expr_of c.args.e.now in
    let es = pack_exprs (map expr_of c.args.arguments.now) in
    on_ok_weaker c.lower_call-2.result
    (on-object context e c.args.x.now es c.in_ok-kind.kind (code_of c.args.draft.now)
    (code_of c.lower_expression.new.draft) (code_of c.lower_call-2.new.draft) c.in_default.ensures
    (unstored-untouched context e c.args.x.now (count_exprs es) (sym c.is_access.ensures ∙ c.if-is_access.false))
    c.in_ok-kind.ensures.code c.in_ok-kind.ensures.kind)
    c.lower_call-2.ensures.code

pub invocations::lower_call_on-lower_call_on_access-requires :
    goal.invocations::lower_call_on-lower_call_on_access-requires
invocations::lower_call_on-lower_call_on_access-requires t c =
    (search rules, (sym c.is_access.ensures ∙ c.if-is_access.true, c.in_default.ensures))

pub invocations::lower_touching_call-returns : goal.invocations::lower_touching_call-returns
invocations::lower_touching_call-returns t c =
    on_ok_weaker c.end_touching_call.result
    (touching-made c.args.context.now c.args.place c.args.touched c.args.arguments.now c.in_ok-count.count
    (code_of c.args.draft.now) (code_of c.fetch_container.new.draft) (code_of c.lower_values.new.draft)
    (code_of c.end_touching_call.new.draft) c.in_ok-count.ensures c.in_ok-fetch_container.ensures
    c.in_ok-lower_values.ensures)
    c.end_touching_call.ensures

pub invocations::lower_call_on_access-returns-in-Some-clause-code :
    goal.invocations::lower_call_on_access-returns-in-Some-clause-code
invocations::lower_call_on_access-returns-in-Some-clause-code t c =
    on-container c.args.context.now (expr_of c.args.e.now) c.args.x.now c.args.arguments.now c.in_ok-storage.storage
    c.in_ok-count.count c.requires.access c.in_ok-count.ensures c.in_ok-storage.ensures.storage c.in-Some.touched
    (code_of c.args.draft.now) (code_of c.lower_storage.new.draft) (code_of c.lower_touching_call.new.draft)
    c.in_ok-storage.ensures.code c.in-Some.ensures c.in_ok-lower_touching_call.ensures

pub invocations::lower_call_on_access-returns-in-Some-clause-kind :
    goal.invocations::lower_call_on_access-returns-in-Some-clause-kind
invocations::lower_call_on_access-returns-in-Some-clause-kind t c =
    c.call_kind.ensures
    ∙ on-container-kind c.args.context.now (expr_of c.args.e.now) c.args.x.now c.args.arguments.now
    c.in_ok-storage.storage c.in_ok-count.count c.requires.access c.in_ok-count.ensures
    c.in_ok-storage.ensures.storage c.kind.result c.requires.no_class c.kind.ensures

pub invocations::lower_call_on_access-returns-clause-code : goal.invocations::lower_call_on_access-returns-clause-code
invocations::lower_call_on_access-returns-clause-code t c =
    on_ok_weaker c.lower_call.result
    (on-access c.args.context.now (expr_of c.args.e.now) c.args.x.now c.args.arguments.now c.in_ok-storage.storage
    c.in_ok-count.count c.requires.access c.in_ok-count.ensures c.in_ok-storage.ensures.storage c.in_ok-kind.kind
    (code_of c.args.draft.now) (code_of c.lower_storage.new.draft) (code_of c.read.new.draft)
    (code_of c.lower_call.new.draft) c.requires.no_class c.in_ok-storage.ensures.code c.in_default.ensures
    c.in_ok-kind.ensures.code c.in_ok-kind.ensures.kind)
    c.lower_call.ensures.code

pub invocations::lower_call_on_access-returns-clause-kind : goal.invocations::lower_call_on_access-returns-clause-kind
invocations::lower_call_on_access-returns-clause-kind t c =
    let context = c.args.context.now in
    let e = expr_of c.args.e.now in
    let es = pack_exprs (map expr_of c.args.arguments.now) in
    IfOk-weaker c.lower_call.result
    (λ k. value_kind k ≡ target_kind context (target.Value c.in_ok-kind.kind) c.args.x.now es)
    (λ k. value_kind k ≡ kind context (CallOn e c.args.x.now es))
    (λ k is. is ∙ on-access-kind context e c.args.x.now c.args.arguments.now c.in_ok-storage.storage
    c.in_ok-count.count c.requires.access c.in_ok-count.ensures c.in_ok-storage.ensures.storage c.in_ok-kind.kind
    c.requires.no_class c.in_ok-kind.ensures.kind)
    c.lower_call.ensures.kind

pub invocations::lower_call_on-returns-clause-kind : goal.invocations::lower_call_on-returns-clause-kind
invocations::lower_call_on-returns-clause-kind t c =
    let context = c.args.context.now in
    let e = expr_of c.args.e.now in
    let es = pack_exprs (map expr_of c.args.arguments.now) in
    IfOk-weaker c.lower_call-2.result
    (λ k. value_kind k ≡ target_kind context (target.Value c.in_ok-kind.kind) c.args.x.now es)
    (λ k. value_kind k ≡ kind context (CallOn e c.args.x.now es))
    (λ k is. is ∙ on-object-kind context e c.args.x.now es c.in_ok-kind.kind c.in_default.ensures
    c.in_ok-kind.ensures.kind)
    c.lower_call-2.ensures.kind

pub expressions::lower_storage-returns-in-Index-clause-code :
    goal.expressions::lower_storage-returns-in-Index-clause-code
expressions::lower_storage-returns-in-Index-clause-code t c =
    let is = is_index c.args.e.now c.in-Index.a c.in-Index.i c.deref-in-Index.result.now c.deref-in-Index-2.result.now
    c.in-Index.is c.deref-in-Index.ensures c.deref-in-Index-2.ensures in
    subst (λ (x : Expr).
    OnOk c.lower_element.result (code_of c.lower_element.new.draft ≡ code_of c.args.draft.now
    ++ base_of (storage c.args.context.now (access_of x)))) (sym is)
    c.lower_element.ensures.code

pub expressions::lower_storage-returns-in-Index-clause-storage :
    goal.expressions::lower_storage-returns-in-Index-clause-storage
expressions::lower_storage-returns-in-Index-clause-storage t c =
    let is = is_index c.args.e.now c.in-Index.a c.in-Index.i c.deref-in-Index.result.now c.deref-in-Index-2.result.now
    c.in-Index.is c.deref-in-Index.ensures c.deref-in-Index-2.ensures in
    subst (λ (x : Expr).
    IfOk c.lower_element.result (λ s. s ≡ without_base (storage c.args.context.now (access_of x)))) (sym is)
    c.lower_element.ensures.storage

pub expressions::lower_storage-returns-in-Field-clause-code :
    goal.expressions::lower_storage-returns-in-Field-clause-code
expressions::lower_storage-returns-in-Field-clause-code t c =
    let is = is_field c.args.e.now c.in-Field.a c.in-Field.x c.deref.result.now c.in-Field.is c.deref.ensures in
    subst (λ (x : Expr).
    OnOk c.lower_selected.result (code_of c.lower_selected.new.draft ≡ code_of c.args.draft.now
    ++ base_of (storage c.args.context.now (access_of x)))) (sym is)
    c.lower_selected.ensures.code

pub expressions::lower_storage-returns-in-Field-clause-storage :
    goal.expressions::lower_storage-returns-in-Field-clause-storage
expressions::lower_storage-returns-in-Field-clause-storage t c =
    let is = is_field c.args.e.now c.in-Field.a c.in-Field.x c.deref.result.now c.in-Field.is c.deref.ensures in
    subst (λ (x : Expr).
    IfOk c.lower_selected.result (λ s. s ≡ without_base (storage c.args.context.now (access_of x)))) (sym is)
    c.lower_selected.ensures.storage

pub expressions::lower_storage-returns-in-Name-clause-code : goal.expressions::lower_storage-returns-in-Name-clause-code
expressions::lower_storage-returns-in-Name-clause-code t c =
    let is = is_name_of c.args.e.now c.in-Name.x c.in-Name.is in
    subst (λ (x : Expr).
    OnOk c.of_name.result (code_of c.of_name.new.draft ≡ code_of c.args.draft.now
    ++ base_of (storage c.args.context.now (access_of x)))) (sym is)
    c.of_name.ensures.code

pub expressions::lower_storage-returns-in-Name-clause-storage :
    goal.expressions::lower_storage-returns-in-Name-clause-storage
expressions::lower_storage-returns-in-Name-clause-storage t c =
    let is = is_name_of c.args.e.now c.in-Name.x c.in-Name.is in
    subst (λ (x : Expr).
    IfOk c.of_name.result (λ s. s ≡ without_base (storage c.args.context.now (access_of x)))) (sym is)
    c.of_name.ensures.storage

pub expressions::lower_initialiser-returns-in-Value-clause-code :
    goal.expressions::lower_initialiser-returns-in-Value-clause-code
expressions::lower_initialiser-returns-in-Value-clause-code t c =
    subst (λ (v : Init).
    OnOk c.lower_expression.result (code_of c.lower_expression.new.draft ≡ code_of c.args.draft.now
    ++ init_code c.args.context.now v)) (sym (is_value c.args.initialiser.now c.in-Value.e c.in-Value.is))
    c.lower_expression.ensures.code

pub expressions::lower_initialiser-returns-in-Value-clause-kind :
    goal.expressions::lower_initialiser-returns-in-Value-clause-kind
expressions::lower_initialiser-returns-in-Value-clause-kind t c =
    subst (λ (v : Init). IfOk c.lower_expression.result (λ k. value_kind k ≡ init_kind c.args.context.now v))
    (sym (is_value c.args.initialiser.now c.in-Value.e c.in-Value.is))
    c.lower_expression.ensures.kind

pub invocations::lower_body-returns-clause-code : goal.invocations::lower_body-returns-clause-code
invocations::lower_body-returns-clause-code t c =
    on_ok_weaker c.value.result
    (body-made c.args.context.now c.args.place (ty_of c.args.t.now) c.args.arguments.now c.in_ok-count.count
    (code_of c.args.draft.now) (code_of c.lower_values.new.draft) (code_of c.value.new.self)
    c.in_ok-count.ensures c.in_ok-lower_values.ensures)
    c.value.ensures.code
