-- What stands behind a `new`.
use Rattle.std.proofs.Common.{◌≡◌, [], ◌∷◌, ◌++◌, map, refl, arith, length, ◌-◌, true, false, codes, rules}
use Rattle.std.proofs.lemmas.List.{map_push}
use Rattle.std.proofs.lemmas.Result.{err_from_is_err_and}
use Rattle.java_tree.specs.Formed.{is_named}
use Rattle.java_tree.specs.KeptPlaces.{kept, each_puts, no_places, base_places, expr_places, array_places}
use Rattle.java_tree.specs.Operators.{assignment_level}
use Rattle.java_tree.specs.Trees.{Typed}
use Rattle.java_tree.specs.View.{expr_of, base_of}
use Rattle.java_parser_grammar.specs.BalancedReading.{braces_tokens_at}
use Rattle.java_parser_grammar.specs.ExpressionReading.{read_at, lengths_with, new_array_with, call_arguments_with}
use Rattle.java_parser_grammar.specs.ExpressionReading.{new_with, new_object_with}
use Rattle.java_parser_grammar.specs.Leads.{begins_with}
use Rattle.java_parser_grammar.specs.Taking.{after_sign}
use Rattle.java_parser_grammar.specs.TypeReading.{made_base_at, has_diamond}
use Rattle.java_parser_types.proofs.LastCalls.{exactly, fewer}
use Rattle.java_parser_types.proofs.LedMarks.{both_led, from_equal, to_equal, led_made}
use Rattle.java_parser_types.proofs.PushedNesting.{exprs_nesting_push}
use Rattle.java_parser_types.proofs.PutPlaces.{one_put}
use Rattle.java_parser_types.proofs.ReadLoops.{ends_give}
use Rattle.java_parser_types.proofs.ReadParts.{part_fails}
use Rattle.java_parser_types.specs.Endings.{lengths_end}
use Rattle.java_parser_types.specs.Finishing.{finished}
use Rattle.java_parser_types.specs.Tokens.{spelled}
use Rattle.java_parser_expressions.proofs.+expressions.Goals.{creations::lengths-else-loop-test}
use Rattle.java_parser_expressions.proofs.+expressions.Goals.{creations::lengths-then-loop-test+in_default}
use Rattle.java_parser_expressions.proofs.ExpressionLoops.{length_goes_on, length_fails, length_unclosed}
use Rattle.java_parser_expressions.proofs.ExpressionLoops.{length_ends, length_runs_out}
use Rattle.java_parser_expressions.proofs.LastCalls.{made_led, led_from, made_through}
use Rattle.java_parser_expressions.proofs.+expressions.Goals as goal

pub creations::creation-returns-in-None : goal.creations::creation-returns-in-None
unfolding new_with
creations::creation-returns-in-None t c =
    record {
      gives = search rules;
      places = rw c.in_ok-base.ensures.places at c.new_array.ensures.places;
      small = search rules;
      shorter = fewer _ c.new_array.result _ _ c.new_array.ensures.shorter (omega
          (arith, c.in_ok-base.ensures.shorter));
    }

pub creations::creation-returns-in-Some : goal.creations::creation-returns-in-Some
unfolding new_with
creations::creation-returns-in-Some t c =
    record {
      gives = rw (c.in_ok-base.ensures.gives, c.in-Some.ensures.gives) c.new_object.ensures.gives;
      places = rw (c.in-Some.ensures.places, c.in_ok-base.ensures.places) at c.new_object.ensures.places;
      small = search rules;
      shorter =
          fewer _ c.new_object.result _ _ c.new_object.ensures.shorter (omega (
            arith,
            c.in_ok-base.ensures.shorter,
            c.in-Some.ensures.shorter,
          ));
    }

pub creations::new_object-returns : goal.creations::new_object-returns
unfolding new_object_with
creations::new_object-returns t c =
    record {
      gives =
          let named : is_named (Typed (base_of c.args.base.value.tree) 0) ≡ true = search rules in
          let body : begins_with (codes "{") (map spelled c.in_ok-all.rest.now) ≡ true = search rules in
          rw (named, c.in_ok-all.ensures.gives, c.in_ok-body.ensures.gives, body) c.object_with_body.ensures.gives;
      places =
          let all = each_puts (map expr_places c.in_ok-all.all.trees.items) in
          let body = no_places c.in_ok-body.body.items in
          led_made c.object_with_body.result _ _ _ _ (kept c.in_ok-body.rest.now) (made_led c.args.place
          (base_places c.args.base.value.tree) (λ rest. all (body rest)) (kept c.args.tokens.now)
          (kept c.in_ok-body.rest.now) (both_led all body (kept c.args.tokens.now) (kept c.in_ok-all.rest.now)
          (kept c.in_ok-body.rest.now) c.in_ok-all.ensures.places c.in_ok-body.ensures.places))
          c.object_with_body.ensures.places c.object_with_body.ensures.behind;
      small =
          exactly _ c.object_with_body.result _ _ c.object_with_body.ensures.small
          (omega (arith, c.in_ok-all.ensures.small, c.requires.base));
      shorter =
          fewer _ c.object_with_body.result _ _ c.object_with_body.ensures.shorter (omega (
            arith,
            c.in_ok-all.ensures.shorter,
            c.in_ok-body.ensures.shorter,
          ));
    }

pub creations::new_object-returns-then-not-begins_with : goal.creations::new_object-returns-then-not-begins_with
unfolding new_object_with
creations::new_object-returns-then-not-begins_with t c =
    record {
      gives =
          let named : is_named (Typed (base_of c.args.base.value.tree) 0) ≡ true = search rules in
          let no_body : begins_with (codes "{") (map spelled c.in_ok-all.rest.now) ≡ false = search rules in
          rw (named, c.in_ok-all.ensures.gives, no_body) c.object.ensures.gives;
      places =
          let all = each_puts (map expr_places c.in_ok-all.all.trees.items) in
          led_made c.object.result _ _ _ _ (kept c.in_ok-all.rest.now) (made_led c.args.place
          (base_places c.args.base.value.tree) all (kept c.args.tokens.now) (kept c.in_ok-all.rest.now)
          c.in_ok-all.ensures.places) c.object.ensures.places c.object.ensures.behind;
      small = exactly _ c.object.result _ _ c.object.ensures.small (omega
          (arith, c.in_ok-all.ensures.small, c.requires.base));
      shorter = fewer _ c.object.result _ _ c.object.ensures.shorter (omega (arith, c.in_ok-all.ensures.shorter));
    }

pub creations::new_array-returns : goal.creations::new_array-returns
unfolding new_array_with
creations::new_array-returns t c =
    record {
      gives = rw (c.in_ok-inside.ensures.gives, c.in_ok-first.ensures.gives, c.in_ok-rest.ensures.gives)
          c.lengths.ensures.gives;
      places =
          let first = expr_places c.in_ok-first.first.tree.value in
          let here = kept c.args.tokens.now in
          let at = kept c.in_ok-rest.rest.now in
          led_from c.lengths.result _ _ (λ ps. c.args.place ∷
          (base_places c.args.base.value.tree ++ ps)) first here at
          (from_equal first here (kept c.in_ok-inside.inside.now) at c.in_ok-inside.ensures.places (to_equal first
          (kept c.in_ok-inside.inside.now) (kept c.in_ok-first.rest.now) at c.in_ok-rest.ensures.places
          c.in_ok-first.ensures.places)) c.lengths.ensures.places;
      small = search rules;
      shorter =
          fewer _ c.lengths.result _ _ c.lengths.ensures.shorter (omega (
            arith,
            c.in_ok-rest.ensures.shorter,
            c.in_ok-first.ensures.shorter,
            c.in_ok-inside.ensures.shorter,
          ));
    }

pub creations::new_items-returns-clause-places : goal.creations::new_items-returns-clause-places
creations::new_items-returns-clause-places t c =
    let items = array_places c.in_ok-items.items.tree in
    let end = kept c.in_ok-items.rest.now in
    led_made c.array_of_items.result _ _ _ _ end (made_led c.args.place (base_places c.args.base.value.tree) items
    (kept c.args.tokens.now) end (from_equal items (kept c.args.tokens.now) (kept c.brackets-more.result.1.now) end
    c.brackets-more.ensures.places c.in_ok-items.ensures.places)) c.array_of_items.ensures.places
    c.array_of_items.ensures.behind

pub creations::creation-returns-in-Some-after_brackets : goal.creations::creation-returns-in-Some-after_brackets
unfolding new_with
creations::creation-returns-in-Some-after_brackets t c =
    record {
      gives =
          let plain : has_diamond (base_of c.in_ok-base.base.value.tree) ≡ false = search rules in
          rw (c.in_ok-base.ensures.gives, c.in_default.ensures.gives, plain, c.in-Some-after_brackets.ensures.gives)
          c.new_items.ensures.gives;
      places = rw (c.in-Some-after_brackets.ensures.places, c.in_ok-base.ensures.places) at
          c.new_items.ensures.places;
      small = search rules;
      shorter =
          fewer _ c.new_items.result _ _ c.new_items.ensures.shorter (omega (
            arith,
            c.in_ok-base.ensures.shorter,
            c.in-Some-after_brackets.ensures.shorter,
          ));
    }

pub creations::new_object-object-requires-clause-all : goal.creations::new_object-object-requires-clause-all
creations::new_object-object-requires-clause-all t c =
    omega (arith, c.in_ok-all.ensures.small, c.requires.room)

pub creations::new_object-object_with_body-requires-clause-all :
    goal.creations::new_object-object_with_body-requires-clause-all
creations::new_object-object_with_body-requires-clause-all t c =
    omega (arith, c.in_ok-all.ensures.small, c.requires.room)

pub creations::lengths-returns-in_err-next-clause-gives : goal.creations::lengths-returns-in_err-next-clause-gives
creations::lengths-returns-in_err-next-clause-gives t c =
    let read = read_at c.args.limit assignment_level in
    let end = lengths_end (base_of c.args.base.value.tree) in
    let total =
    finished end (expr_of c.args.first.tree.value ∷ []) (lengths_with read (length (map spelled c.args.tokens.now))
    (map spelled c.args.tokens.now)) in
    let p = err_from_is_err_and c.from_residual-in_err-next.result c.from_residual-in_err-next.ensures.1 in
    rw (p.1, p.2) (length_fails read end total c.args.tokens.now c.loop.counter (map expr_of c.loop.trees.items)
    (map spelled c.loop.rest.now) c.in_err-next.field-0.0 (map spelled c.in-Some.inside.now) c.loop-test.true
    c.in-Some.ensures.gives c.in_err-next.ensures.gives c.loop.invariant.gives)

pub creations::lengths-returns-in_err-behind-clause-gives : goal.creations::lengths-returns-in_err-behind-clause-gives
creations::lengths-returns-in_err-behind-clause-gives t c =
    let read = read_at c.args.limit assignment_level in
    let end = lengths_end (base_of c.args.base.value.tree) in
    let total =
    finished end (expr_of c.args.first.tree.value ∷ []) (lengths_with read (length (map spelled c.args.tokens.now))
    (map spelled c.args.tokens.now)) in
    let p = err_from_is_err_and c.from_residual-in_err-behind.result c.from_residual-in_err-behind.ensures.1 in
    rw (p.1, p.2) (length_unclosed read end total c.args.tokens.now c.loop.counter (map expr_of c.loop.trees.items)
    (map spelled c.loop.rest.now) c.in_err-behind.field-0.0 (expr_of c.in_ok-next.next.tree.value)
    (map spelled c.in-Some.inside.now) (map spelled c.in_ok-next.behind.now) c.loop-test.true
    c.in-Some.ensures.gives c.in_ok-next.ensures.gives c.in_err-behind.ensures.gives c.loop.invariant.gives)

pub creations::lengths-loop-preserved : goal.creations::lengths-loop-preserved
creations::lengths-loop-preserved t c =
    let n = c.in_ok-next.next.tree.value in
    let e : map expr_of c.push_tree-in-loop.new.trees.items ≡ map expr_of c.loop.trees.items ++ expr_of n ∷ [] =
    rw c.in_ok-push_tree-2.ensures.items (map_push _ c.loop.trees.items n) in
    let read = read_at c.args.limit assignment_level in
    let end = lengths_end (base_of c.args.base.value.tree) in
    let total =
    finished end (expr_of c.args.first.tree.value ∷ []) (lengths_with read (length (map spelled c.args.tokens.now))
    (map spelled c.args.tokens.now)) in
    record {
      gives = rw e (length_goes_on read end total c.args.tokens.now c.loop.counter (map expr_of c.loop.trees.items)
          (map spelled c.loop.rest.now) (expr_of n) (map spelled c.in-Some.inside.now)
          (map spelled c.in_ok-next.behind.now) (map spelled c.in_ok-behind.behind.now) c.loop-test.true
          c.in-Some.ensures.gives c.in_ok-next.ensures.gives c.in_ok-behind.ensures.gives c.loop.invariant.gives);
      places = rw c.in_ok-push_tree-2.ensures.items (λ start led. one_put expr_places c.loop.trees.items n start
          (kept c.loop.rest.now) (kept c.in_ok-behind.behind.now) (from_equal (expr_places n) (kept c.loop.rest.now)
          (kept c.in-Some.inside.now) (kept c.in_ok-behind.behind.now) c.in-Some.ensures.places (to_equal
          (expr_places n) (kept c.in-Some.inside.now) (kept c.in_ok-next.behind.now) (kept c.in_ok-behind.behind.now)
          c.in_ok-behind.ensures.places c.in_ok-next.ensures.places)) (c.loop.invariant.places start led));
      small = omega (arith, c.in_ok-next.ensures.small, c.max-nesting.ensures);
      measured = rw e (omega (
        arith,
        c.max-nesting.ensures,
        c.loop.invariant.measured,
        c.in_ok-next.next.measured,
        exprs_nesting_push (map expr_of c.loop.trees.items) (expr_of n),
      ));
      shorter = omega (
        arith,
        c.in-Some.ensures.shorter,
        c.in_ok-next.ensures.shorter,
        c.in_ok-behind.ensures.shorter,
      );
    }

pub creations::lengths-returns : goal.creations::lengths-returns
creations::lengths-returns t c =
    record {
      gives =
          let read = read_at c.args.limit assignment_level in
          let end = lengths_end (base_of c.args.base.value.tree) in
          let total =
          finished end (expr_of c.args.first.tree.value ∷ []) (lengths_with read (length
          (map spelled c.args.tokens.now))
          (map spelled c.args.tokens.now)) in
          elim c.loop-test.branch [
            | creations::lengths-else-loop-test w ↦ ends_give _ c.lengths_end.result total _ (length_runs_out read end
                total c.args.tokens.now c.loop.counter (map expr_of c.loop.trees.items) (map spelled c.loop.rest.now)
                w.loop-test.false c.loop.invariant.gives) c.lengths_end.ensures.gives
            | creations::lengths-then-loop-test+in_default w ↦ ends_give _ c.lengths_end.result total _
                (length_ends read
                end total c.args.tokens.now c.loop.counter (map expr_of c.loop.trees.items)
                (map spelled c.loop.rest.now)
                w.loop-test.true w.in_default.ensures.gives c.loop.invariant.gives) c.lengths_end.ensures.gives
          ];
      places =
          made_through c.lengths_end.result _ _ c.args.place (base_places c.args.base.value.tree)
          (expr_places c.args.first.tree.value) (each_puts (map expr_places c.loop.trees.items))
          (kept c.args.tokens.now)
          (kept c.loop.rest.now) c.loop.invariant.places c.lengths_end.ensures.places c.lengths_end.ensures.behind;
      small =
          exactly _ c.lengths_end.result _ _ c.lengths_end.ensures.small
          (omega (arith, c.loop.invariant.small, c.requires.base));
      shorter = fewer _ c.lengths_end.result _ _ c.lengths_end.ensures.shorter (omega
          (arith, c.loop.invariant.shorter));
    }

pub creations::lengths-loop-init : goal.creations::lengths-loop-init
creations::lengths-loop-init t c =
    let none : length (map spelled c.args.tokens.now) - 0 ≡ length (map spelled c.args.tokens.now) = omega arith in
    record {
      gives = rw (c.in_ok-push_tree.ensures.items, c.new-trees.ensures.items, none) refl;
      places = rw (c.in_ok-push_tree.ensures.items, c.new-trees.ensures.items) (λ start led. led);
      small = c.requires.first;
      measured = rw (c.in_ok-push_tree.ensures.items, c.new-trees.ensures.items) (omega
          (arith, c.args.first.measured));
      shorter = omega arith;
    }

pub creations::new_array-returns-in_err-inside-clause-gives :
    goal.creations::new_array-returns-in_err-inside-clause-gives
unfolding new_array_with
creations::new_array-returns-in_err-inside-clause-gives t c =
    let p = err_from_is_err_and c.from_residual.result c.from_residual.ensures.1 in
    rw (p.1, p.2) (part_fails c.in_err-inside.field-0.0 (after_sign (codes "[") (map spelled c.args.tokens.now)) _
    (λ n. rw n refl) c.in_err-inside.ensures.gives)

pub creations::new_array-returns-in_err-first-clause-gives :
    goal.creations::new_array-returns-in_err-first-clause-gives
unfolding new_array_with
creations::new_array-returns-in_err-first-clause-gives t c =
    let p = err_from_is_err_and c.from_residual-in_err-first.result c.from_residual-in_err-first.ensures.1 in
    rw (p.1, p.2) (part_fails c.in_err-first.field-0.0 (read_at c.args.limit assignment_level
    (map spelled c.in_ok-inside.inside.now)) _ (λ n. rw (c.in_ok-inside.ensures.gives, n) refl)
    c.in_err-first.ensures.gives)

pub creations::new_array-returns-in_err-rest-clause-gives : goal.creations::new_array-returns-in_err-rest-clause-gives
unfolding new_array_with
creations::new_array-returns-in_err-rest-clause-gives t c =
    let p = err_from_is_err_and c.from_residual-in_err-rest.result c.from_residual-in_err-rest.ensures.1 in
    rw (p.1, p.2) (part_fails c.in_err-rest.field-0.0 (after_sign (codes "]") (map spelled c.in_ok-first.rest.now)) _
    (λ n. rw (c.in_ok-inside.ensures.gives, c.in_ok-first.ensures.gives, n) refl) c.in_err-rest.ensures.gives)

pub creations::creation-returns-in_err-base-clause-gives : goal.creations::creation-returns-in_err-base-clause-gives
unfolding new_with
creations::creation-returns-in_err-base-clause-gives t c =
    let p = err_from_is_err_and c.from_residual.result c.from_residual.ensures.1 in
    rw (p.1, p.2) (part_fails c.in_err-base.field-0.0 (made_base_at c.args.limit (map spelled c.args.tokens.now)) _
    (λ n. rw n refl) c.in_err-base.ensures.gives)

pub creations::creation-returns-then-has_diamond-clause-gives :
    goal.creations::creation-returns-then-has_diamond-clause-gives
unfolding new_with
creations::creation-returns-then-has_diamond-clause-gives t c =
    let diamond : has_diamond (base_of c.in_ok-base.base.value.tree) ≡ true = search rules in
    rw (c.in_ok-base.ensures.gives, c.in_default.ensures.gives, diamond) refl

pub creations::new_object-returns-then-not-is_named-clause-gives :
    goal.creations::new_object-returns-then-not-is_named-clause-gives
unfolding new_object_with
creations::new_object-returns-then-not-is_named-clause-gives t c =
    let plain : is_named (Typed (base_of c.args.base.value.tree) 0) ≡ false = search rules in
    rw plain refl

pub creations::new_object-returns-in_err-all-clause-gives : goal.creations::new_object-returns-in_err-all-clause-gives
unfolding new_object_with
creations::new_object-returns-in_err-all-clause-gives t c =
    let p = err_from_is_err_and c.from_residual.result c.from_residual.ensures.1 in
    let named : is_named (Typed (base_of c.args.base.value.tree) 0) ≡ true = search rules in
    rw (p.1, p.2) (part_fails c.in_err-all.field-0.0 (call_arguments_with (read_at c.args.limit)
    (map spelled c.args.tokens.now)) _ (λ n. rw (named, n) refl) c.in_err-all.ensures.gives)

pub creations::new_object-returns-in_err-body-clause-gives :
    goal.creations::new_object-returns-in_err-body-clause-gives
unfolding new_object_with
creations::new_object-returns-in_err-body-clause-gives t c =
    let p = err_from_is_err_and c.from_residual-in_err-body.result c.from_residual-in_err-body.ensures.1 in
    let named : is_named (Typed (base_of c.args.base.value.tree) 0) ≡ true = search rules in
    let body : begins_with (codes "{") (map spelled c.in_ok-all.rest.now) ≡ true = search rules in
    rw (p.1, p.2) (part_fails c.in_err-body.field-0.0 (braces_tokens_at (map spelled c.in_ok-all.rest.now)) _
    (λ n. rw (named, c.in_ok-all.ensures.gives, n, body) refl) c.in_err-body.ensures.gives)
