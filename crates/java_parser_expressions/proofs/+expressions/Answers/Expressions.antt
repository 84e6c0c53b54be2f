-- A lambda or an operand, and what is made of an expression and what stands behind it.
use Rattle.std.proofs.Common.{◌≡◌, [], ◌∷◌, ◌∙◌, map, refl, arith, sym, suc, ◌-◌, false, codes, rules, ◌+◌}
use Rattle.std.proofs.lemmas.Result.{err_from_is_err_and}
use Rattle.java_tree.specs.KeptPlaces.{kept, each_puts, types_places, name_places, expr_places}
use Rattle.java_tree.specs.Operators.{assignment_level, conditional_level}
use Rattle.java_tree.specs.Trees.{Assign, Conditional, Binary, CallOn, Field, pack_exprs}
use Rattle.java_tree.specs.View.{expr_of, types_of}
use Rattle.java_parser_grammar.specs.ExpressionReading.{read_at, lambda_level, assign_with, conditional_with}
use Rattle.java_parser_grammar.specs.ExpressionReading.{select_with, index_with, call_arguments_with, binary_with}
use Rattle.java_parser_grammar.specs.Leads.{begins_lambda}
use Rattle.java_parser_grammar.specs.Taking.{after_sign, after_name}
use Rattle.java_parser_grammar.specs.TypeReading.{types_at}
use Rattle.java_parser_types.proofs.LedMarks.{both_led, from_equal, part_led, some_led}
use Rattle.java_parser_types.proofs.ReadLoops.{ends_give}
use Rattle.java_parser_types.proofs.ReadParts.{part_fails}
use Rattle.java_parser_types.specs.Tokens.{spelled}
use Rattle.java_parser_expressions.proofs.LastCalls.{within, grown_places}
use Rattle.java_parser_expressions.proofs.NestedParentheses.{read_begins}
use Rattle.java_parser_expressions.proofs.PartReading.{operand_on, operand_fails}
use Rattle.java_parser_expressions.proofs.TypesBefore.{some_types}
use Rattle.java_parser_expressions.proofs.+expressions.Goals as goal

pub expressions::assign-returns : goal.expressions::assign-returns
unfolding assign_with
expressions::assign-returns t c =
    record {
      gives = rw c.in_ok-right.ensures.gives c.assigned.ensures.gives;
      places =
          let a = expr_places c.args.left.tree.value in
          let b = expr_places c.in_ok-right.right.tree.value in
          grown_places c.assigned.result c.args.limit (Assign (expr_of c.args.left.tree.value) c.args.operator.now
          (expr_of c.in_ok-right.right.tree.value)) (map spelled c.in_ok-right.rest.now) a (λ rest. a (b rest))
          (kept c.args.tokens.now) (kept c.in_ok-right.rest.now) c.assigned.ensures.gives
          (part_led a b (kept c.args.tokens.now) (kept c.in_ok-right.rest.now) c.in_ok-right.ensures.places)
          c.assigned.ensures.places c.assigned.ensures.behind;
      small = search rules;
      shorter = within c.assigned.result _ _ c.assigned.ensures.shorter (omega
          (arith, c.in_ok-right.ensures.shorter));
    }

pub expressions::binary-returns : goal.expressions::binary-returns
unfolding binary_with
expressions::binary-returns t c =
    record {
      gives =
          let more : c.binary_level.result + 1 ≡ suc c.binary_level.result = omega arith in
          rw (← c.binary_level.ensures.gives, ← more, c.in_ok-right.ensures.gives) c.joined.ensures.gives;
      places =
          let a = expr_places c.args.left.tree.value in
          let b = expr_places c.in_ok-right.right.tree.value in
          grown_places c.joined.result c.args.limit (Binary (expr_of c.args.left.tree.value) c.args.operator.now
          (expr_of c.in_ok-right.right.tree.value)) (map spelled c.in_ok-right.rest.now) a (λ rest. a (b rest))
          (kept c.args.tokens.now) (kept c.in_ok-right.rest.now) c.joined.ensures.gives
          (part_led a b (kept c.args.tokens.now) (kept c.in_ok-right.rest.now) c.in_ok-right.ensures.places)
          c.joined.ensures.places c.joined.ensures.behind;
      small = search rules;
      shorter = within c.joined.result _ _ c.joined.ensures.shorter (omega (arith, c.in_ok-right.ensures.shorter));
    }

pub expressions::conditional-returns : goal.expressions::conditional-returns
unfolding conditional_with
expressions::conditional-returns t c =
    record {
      gives = rw (c.in_ok-then.ensures.gives, c.in_ok-rest.ensures.gives, c.in_ok-other.ensures.gives)
          c.chosen.ensures.gives;
      places =
          let a = expr_places c.args.left.tree.value in
          let b = expr_places c.in_ok-then.then.tree.value in
          let d = expr_places c.in_ok-other.other.tree.value in
          let here = kept c.args.tokens.now in
          let at = kept c.in_ok-then.rest.now in
          let end = kept c.in_ok-other.rest.now in
          grown_places c.chosen.result c.args.limit (Conditional (expr_of c.args.left.tree.value)
          (expr_of c.in_ok-then.then.tree.value) (expr_of c.in_ok-other.other.tree.value))
          (map spelled c.in_ok-other.rest.now) a (λ rest. a (b (d rest))) here end c.chosen.ensures.gives
          (part_led a (λ rest. b (d rest)) here end (both_led b d here at end c.in_ok-then.ensures.places
          (from_equal d at (kept c.in_ok-rest.rest.now) end c.in_ok-rest.ensures.places
          c.in_ok-other.ensures.places)))
          c.chosen.ensures.places c.chosen.ensures.behind;
      small = search rules;
      shorter =
          within c.chosen.result _ _ c.chosen.ensures.shorter (omega (
            arith,
            c.in_ok-other.ensures.shorter,
            c.in_ok-rest.ensures.shorter,
            c.in_ok-then.ensures.shorter,
          ));
    }

pub expressions::select-returns : goal.expressions::select-returns
unfolding select_with
expressions::select-returns t c =
    record {
      gives =
          rw (
            c.in_ok-types.ensures.gives,
            c.in_ok-name.ensures.gives,
            c.in-Some.ensures.gives,
            c.in_ok-all.ensures.gives,
          ) c.called.ensures.gives;
      places =
          let a = expr_places c.args.left.tree.value in
          let types = types_places c.in_ok-types.types.trees in
          let name = name_places c.in_ok-name.name in
          let all = each_puts (map expr_places c.in_ok-all.all.trees.items) in
          let here = kept c.args.tokens.now in
          let named = kept c.in_ok-types.rest.now in
          let at = kept c.in_ok-name.rest.now in
          let end = kept c.in_ok-all.rest.now in
          grown_places c.called.result c.args.limit (CallOn (expr_of c.args.left.tree.value)
          (types_of c.in_ok-types.types.trees c.in_ok-types.types.glued) c.in_ok-name.name.text
          (pack_exprs (map expr_of c.in_ok-all.all.trees.items))) (map spelled c.in_ok-all.rest.now) a
          (λ rest. a (types (name (all rest)))) here end c.called.ensures.gives
          (part_led a (λ rest. types (name (all rest))) here end (both_led types (λ rest. name
          (all rest)) here named end
          (some_led _ named here c.in_ok-types.ensures.places) (both_led name all named at end
          (some_led (c.in_ok-name.name.place ∷ []) at named c.in_ok-name.ensures.places)
          (from_equal all at (kept c.in-Some.inside.now) end c.in-Some.ensures.places c.in_ok-all.ensures.places))))
          c.called.ensures.places c.called.ensures.behind;
      small = search rules;
      shorter =
          within c.called.result _ _ c.called.ensures.shorter (omega (
            arith,
            c.in_ok-all.ensures.shorter,
            c.in-Some.ensures.shorter,
            c.in_ok-name.ensures.shorter,
            c.in_ok-types.ensures.shorter,
          ));
    }

pub expressions::select-returns-in_default : goal.expressions::select-returns-in_default
unfolding select_with
expressions::select-returns-in_default t c =
    record {
      gives =
          let none : c.in_ok-types.types.trees ≡ [] = c.is_empty.ensures.0 c.if-not-is_empty.false in
          let gives = rw none at c.in_ok-types.ensures.gives in
          rw (gives, c.in_ok-name.ensures.gives, c.in_default.ensures.gives) c.selected.ensures.gives;
      places =
          let a = expr_places c.args.left.tree.value in
          let name = name_places c.in_ok-name.name in
          let here = kept c.args.tokens.now in
          let at = kept c.in_ok-types.rest.now in
          let end = kept c.in_ok-name.rest.now in
          let none : c.in_ok-types.types.trees ≡ [] = c.is_empty.ensures.0 c.if-not-is_empty.false in
          let same : at ≡ here = rw none at c.in_ok-types.ensures.places in
          grown_places c.selected.result c.args.limit (Field (expr_of c.args.left.tree.value) c.in_ok-name.name.text)
          (map spelled c.in_ok-name.rest.now) a (λ rest. a (name rest)) here end c.selected.ensures.gives
          (part_led a name here end (some_led (c.in_ok-name.name.place ∷ []) end here
          (c.in_ok-name.ensures.places ∙ same)))
          c.selected.ensures.places c.selected.ensures.behind;
      small = search rules;
      shorter =
          within c.selected.result _ _ c.selected.ensures.shorter (omega (
            arith,
            c.in_ok-name.ensures.shorter,
            c.in_ok-types.ensures.shorter,
          ));
    }

pub expressions::index-returns : goal.expressions::index-returns
unfolding index_with
expressions::index-returns t c =
    record {
      gives = rw c.in_ok-index.ensures.gives c.indexed.ensures.gives;
      places = search rules;
      small = search rules;
      shorter = within c.indexed.result _ _ c.indexed.ensures.shorter (omega (arith, c.in_ok-index.ensures.shorter));
    }

pub expressions::conditional-chosen-requires-clause-then : goal.expressions::conditional-chosen-requires-clause-then
expressions::conditional-chosen-requires-clause-then t c =
    c.in_ok-then.ensures.small

pub expressions::conditional-chosen-requires-clause-other : goal.expressions::conditional-chosen-requires-clause-other
expressions::conditional-chosen-requires-clause-other t c =
    c.in_ok-other.ensures.small

pub expressions::select-called-requires-clause-all : goal.expressions::select-called-requires-clause-all
expressions::select-called-requires-clause-all t c =
    c.in_ok-all.ensures.small

pub expressions::binary-joined-requires-clause-right : goal.expressions::binary-joined-requires-clause-right
expressions::binary-joined-requires-clause-right t c =
    c.in_ok-right.ensures.small

pub expressions::assign-assigned-requires-clause-right : goal.expressions::assign-assigned-requires-clause-right
expressions::assign-assigned-requires-clause-right t c =
    c.in_ok-right.ensures.small

pub expressions::index-indexed-requires-clause-index : goal.expressions::index-indexed-requires-clause-index
expressions::index-indexed-requires-clause-index t c =
    c.in_ok-index.ensures.small

pub expressions::read_part-returns-in-Some-true-clause-gives :
    goal.expressions::read_part-returns-in-Some-true-clause-gives
expressions::read_part-returns-in-Some-true-clause-gives t c =
    let whole : suc (c.args.limit - 1) ≡ c.args.limit = omega (arith, c.if-limit-eq0.false) in
    rw whole at c.lambda_part.ensures.gives

pub expressions::read_part-returns-in-None-clause-gives : goal.expressions::read_part-returns-in-None-clause-gives
expressions::read_part-returns-in-None-clause-gives t c =
    let whole : suc (c.args.limit - 1) ≡ c.args.limit = omega (arith, c.if-limit-eq0.false) in
    rw whole at c.nested_part.ensures.gives

pub expressions::nested_part-returns-else-begins_with-clause-gives :
    goal.expressions::nested_part-returns-else-begins_with-clause-gives
expressions::nested_part-returns-else-begins_with-clause-gives t c =
    let ts = map spelled c.args.tokens.now in
    let first = c.in-Ok.first.tree.value in
    let none : begins_lambda ts ≡ false =
    read_begins c.args.limit ts (expr_of first, map spelled c.in-Ok.rest.now) c.requires.nests c.in-Ok.ensures.gives
    ∙ sym c.begins_with.ensures ∙ c.if-begins_with.false in
    ends_give _ c.climb.result _ _ (operand_on (suc c.args.limit) c.args.limit c.args.level c.args.lambdas ts refl
    (expr_of first, map spelled c.in-Ok.rest.now) none c.in-Ok.ensures.gives) c.climb.ensures.gives

pub expressions::nested_part-lambda_part-requires : goal.expressions::nested_part-lambda_part-requires
expressions::nested_part-lambda_part-requires t c =
    let first = c.in-Ok.first.tree.value in
    let begins =
    read_begins c.args.limit (map spelled c.args.tokens.now) (expr_of first, map spelled c.in-Ok.rest.now)
    c.requires.nests c.in-Ok.ensures.gives ∙ sym c.begins_with.ensures ∙ c.if-begins_with.true in
    (search rules, (c.requires.few, (omega (arith, c.requires.room), begins)))

pub expressions::nested_part-returns-then-not-begins_lambda-clause-gives :
    goal.expressions::nested_part-returns-then-not-begins_lambda-clause-gives
expressions::nested_part-returns-then-not-begins_lambda-clause-gives t c =
    let ts = map spelled c.args.tokens.now in
    let none : begins_lambda ts ≡ false = search rules in
    let fails = rw c.in-Err-Unformed.field-0-is at c.in-Err-Unformed.ensures.gives in
    operand_fails (suc c.args.limit) c.args.limit c.args.level c.args.lambdas ts refl none fails

pub expressions::assign-returns-in_err-right-clause-gives : goal.expressions::assign-returns-in_err-right-clause-gives
unfolding assign_with
expressions::assign-returns-in_err-right-clause-gives t c =
    let p = err_from_is_err_and c.from_residual.result c.from_residual.ensures.1 in
    rw (p.1, p.2) (part_fails c.in_err-right.field-0.0 (read_at c.args.limit assignment_level
    (map spelled c.args.tokens.now)) _ (λ n. rw n refl) c.in_err-right.ensures.gives)

pub expressions::conditional-returns-in_err-then-clause-gives :
    goal.expressions::conditional-returns-in_err-then-clause-gives
unfolding conditional_with
expressions::conditional-returns-in_err-then-clause-gives t c =
    let p = err_from_is_err_and c.from_residual.result c.from_residual.ensures.1 in
    rw (p.1, p.2) (part_fails c.in_err-then.field-0.0 (read_at c.args.limit assignment_level
    (map spelled c.args.tokens.now)) _ (λ n. rw n refl) c.in_err-then.ensures.gives)

pub expressions::conditional-returns-in_err-rest-clause-gives :
    goal.expressions::conditional-returns-in_err-rest-clause-gives
unfolding conditional_with
expressions::conditional-returns-in_err-rest-clause-gives t c =
    let p = err_from_is_err_and c.from_residual-in_err-rest.result c.from_residual-in_err-rest.ensures.1 in
    rw (p.1, p.2) (part_fails c.in_err-rest.field-0.0 (after_sign (codes ":") (map spelled c.in_ok-then.rest.now)) _
    (λ n. rw (c.in_ok-then.ensures.gives, n) refl) c.in_err-rest.ensures.gives)

pub expressions::conditional-returns-in_err-other-clause-gives :
    goal.expressions::conditional-returns-in_err-other-clause-gives
unfolding conditional_with
expressions::conditional-returns-in_err-other-clause-gives t c =
    let p = err_from_is_err_and c.from_residual-in_err-other.result c.from_residual-in_err-other.ensures.1 in
    let ts = map spelled c.in_ok-rest.rest.now in
    rw (p.1, p.2) (part_fails c.in_err-other.field-0.0 (read_at c.args.limit (lambda_level conditional_level ts) ts) _
    (λ n. rw (c.in_ok-then.ensures.gives, c.in_ok-rest.ensures.gives, n) refl) c.in_err-other.ensures.gives)

pub expressions::select-returns-in_err-types-clause-gives : goal.expressions::select-returns-in_err-types-clause-gives
unfolding select_with
expressions::select-returns-in_err-types-clause-gives t c =
    let p = err_from_is_err_and c.from_residual.result c.from_residual.ensures.1 in
    rw (p.1, p.2) (part_fails c.in_err-types.field-0.0 (types_at c.args.limit (map spelled c.args.tokens.now)) _
    (λ n. rw n refl) c.in_err-types.ensures.gives)

pub expressions::select-returns-in_err-name-clause-gives : goal.expressions::select-returns-in_err-name-clause-gives
unfolding select_with
expressions::select-returns-in_err-name-clause-gives t c =
    let p = err_from_is_err_and c.from_residual-in_err-name.result c.from_residual-in_err-name.ensures.1 in
    rw (p.1, p.2) (part_fails c.in_err-name.field-0.0 (after_name (map spelled c.in_ok-types.rest.now)) _
    (λ n. rw (c.in_ok-types.ensures.gives, n) refl) c.in_err-name.ensures.gives)

pub expressions::select-returns-then-not-is_empty-clause-gives :
    goal.expressions::select-returns-then-not-is_empty-clause-gives
unfolding select_with
expressions::select-returns-then-not-is_empty-clause-gives t c =
    let types = c.in_ok-types.types in
    rw (
      c.in_ok-types.ensures.gives,
      c.in_ok-name.ensures.gives,
      c.in_default.ensures.gives,
      some_types types.trees types.glued c.is_empty.result c.is_empty.ensures c.if-not-is_empty.true,
    ) refl

pub expressions::select-returns-in_err-all-clause-gives : goal.expressions::select-returns-in_err-all-clause-gives
unfolding select_with
expressions::select-returns-in_err-all-clause-gives t c =
    let p = err_from_is_err_and c.from_residual-in_err-all.result c.from_residual-in_err-all.ensures.1 in
    rw (p.1, p.2) (part_fails c.in_err-all.field-0.0 (call_arguments_with (read_at c.args.limit)
    (map spelled c.in-Some.inside.now)) _ (λ n. rw (
      c.in_ok-types.ensures.gives,
      c.in_ok-name.ensures.gives,
      c.in-Some.ensures.gives,
      n,
    ) refl) c.in_err-all.ensures.gives)

pub expressions::index-returns-in_err-index-clause-gives : goal.expressions::index-returns-in_err-index-clause-gives
unfolding index_with
expressions::index-returns-in_err-index-clause-gives t c =
    let p = err_from_is_err_and c.from_residual.result c.from_residual.ensures.1 in
    rw (p.1, p.2) (part_fails c.in_err-index.field-0.0 (read_at c.args.limit assignment_level
    (map spelled c.args.tokens.now)) _ (λ n. rw n refl) c.in_err-index.ensures.gives)
