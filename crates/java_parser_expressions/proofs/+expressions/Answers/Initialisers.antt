-- Array initialisers, and what a variable begins with.
use Rattle.std.proofs.Common.{◌≡◌, [], ◌∷◌, ◌++◌, map, refl, arith, length, ◌-◌, codes, rules}
use Rattle.std.proofs.lemmas.List.{map_push}
use Rattle.std.proofs.lemmas.Result.{err_from_is_err_and}
use Rattle.java_tree.specs.KeptPlaces.{kept, init_places}
use Rattle.java_tree.specs.View.{init_of}
use Rattle.java_parser_grammar.specs.ExpressionReading.{init_at, items_with, braces_with}
use Rattle.java_parser_grammar.specs.Taking.{after_sign}
use Rattle.java_parser_types.proofs.LastCalls.{exactly, fewer}
use Rattle.java_parser_types.proofs.LedMarks.{from_equal, led_on, led_made, led_made_through}
use Rattle.java_parser_types.proofs.PushedNesting.{inits_nesting_push}
use Rattle.java_parser_types.proofs.PutPlaces.{one_put}
use Rattle.java_parser_types.proofs.ReadLoops.{ends_give}
use Rattle.java_parser_types.proofs.ReadParts.{part_fails}
use Rattle.java_parser_types.specs.Endings.{items_end}
use Rattle.java_parser_types.specs.Tokens.{spelled}
use Rattle.java_parser_expressions.proofs.ExpressionLoops.{item_goes_on, item_fails, items_stop, items_run_out}
use Rattle.java_parser_expressions.proofs.+expressions.Goals as goal

pub initialisers::read_initialiser-returns : goal.initialisers::read_initialiser-returns
initialisers::read_initialiser-returns t c =
    record {
      gives = search rules;
      places = led_made c.expression_value.result _ _ _ _ _ c.in_ok-value.ensures.places
          c.expression_value.ensures.places c.expression_value.ensures.behind;
      small = exactly _ c.expression_value.result _ _ c.expression_value.ensures.small c.in_ok-value.ensures.small;
      shorter =
          fewer _ c.expression_value.result _ _ c.expression_value.ensures.shorter (omega
          (arith, c.in_ok-value.ensures.shorter));
    }

pub initialisers::read_initialiser-returns-then-is_some : goal.initialisers::read_initialiser-returns-then-is_some
initialisers::read_initialiser-returns-then-is_some t c =
    record {
      gives = search rules;
      places = led_made c.items_value.result _ _ _ _ _ c.in_ok-items.ensures.places c.items_value.ensures.places
          c.items_value.ensures.behind;
      small = exactly _ c.items_value.result _ _ c.items_value.ensures.small c.in_ok-items.ensures.small;
      shorter = fewer _ c.items_value.result _ _ c.items_value.ensures.shorter (omega
          (arith, c.in_ok-items.ensures.shorter));
    }

pub initialisers::braces-returns : goal.initialisers::braces-returns
unfolding braces_with
initialisers::braces-returns t c =
    record {
      gives = rw (c.in_ok-rest.ensures.gives, c.in_default.ensures.gives, c.in_ok-first.ensures.gives)
          c.items.ensures.gives;
      places =
          let first = init_places c.in_ok-first.first.tree.value in
          let end = kept c.in_ok-first.rest.now in
          led_on c.items.result _ _ _ _ end (from_equal first (kept c.args.tokens.now)
          (kept c.in_ok-rest.rest.now) end
          c.in_ok-rest.ensures.places c.in_ok-first.ensures.places) c.items.ensures.places;
      small = search rules;
      shorter =
          fewer _ c.items.result _ _ c.items.ensures.shorter (omega (
            arith,
            c.in_ok-first.ensures.shorter,
            c.in_ok-rest.ensures.shorter,
          ));
    }

pub initialisers::items-returns-in_default : goal.initialisers::items-returns-in_default
initialisers::items-returns-in_default t c =
    record {
      gives =
          let read = init_at c.args.limit in
          let total = items_end (init_of c.args.first.tree.value ∷ []) (items_with read (length
          (map spelled c.args.tokens.now))
          (map spelled c.args.tokens.now)) in
          ends_give _ c.items_end.result total _ (items_stop read total c.args.tokens.now c.loop.counter
          (map init_of c.loop.items.items) (map spelled c.loop.rest.now) c.loop-test.true c.in_default.ensures.gives
          c.loop.invariant.gives) c.items_end.ensures.gives;
      places = led_made_through c.items_end.result _ _ _ _ _ _ c.loop.invariant.places c.items_end.ensures.places
          c.items_end.ensures.behind;
      small = exactly _ c.items_end.result _ _ c.items_end.ensures.small (omega (arith, c.loop.invariant.small));
      shorter = fewer _ c.items_end.result _ _ c.items_end.ensures.shorter (omega (arith, c.loop.invariant.shorter));
    }

pub initialisers::items-returns-in_err-next-clause-gives : goal.initialisers::items-returns-in_err-next-clause-gives
initialisers::items-returns-in_err-next-clause-gives t c =
    let read = init_at c.args.limit in
    let total = items_end (init_of c.args.first.tree.value ∷ []) (items_with read (length
    (map spelled c.args.tokens.now))
    (map spelled c.args.tokens.now)) in
    let p = err_from_is_err_and c.from_residual-in_err-next.result c.from_residual-in_err-next.ensures.1 in
    rw (p.1, p.2) (item_fails read total c.args.tokens.now c.loop.counter (map init_of c.loop.items.items)
    (map spelled c.loop.rest.now) c.in_err-next.field-0.0 (map spelled c.in-Some.after.now) c.loop-test.true
    c.in-Some.ensures.gives c.in_err-next.ensures.gives c.loop.invariant.gives)

pub initialisers::items-loop-preserved : goal.initialisers::items-loop-preserved
initialisers::items-loop-preserved t c =
    let n = c.in_ok-next.next.tree.value in
    let e : map init_of c.push_tree-in-loop.new.trees.items ≡ map init_of c.loop.items.items ++ init_of n ∷ [] =
    rw c.in_ok-push_tree-2.ensures.items (map_push _ c.loop.items.items n) in
    let read = init_at c.args.limit in
    let total = items_end (init_of c.args.first.tree.value ∷ []) (items_with read (length
    (map spelled c.args.tokens.now))
    (map spelled c.args.tokens.now)) in
    record {
      gives = rw e (item_goes_on read total c.args.tokens.now c.loop.counter (map init_of c.loop.items.items)
          (map spelled c.loop.rest.now) (init_of n) (map spelled c.in-Some.after.now)
          (map spelled c.in_ok-next.after.now) c.loop-test.true c.in-Some.ensures.gives c.in_ok-next.ensures.gives
          c.loop.invariant.gives);
      places = rw c.in_ok-push_tree-2.ensures.items (λ start led. one_put init_places c.loop.items.items n start
          (kept c.loop.rest.now) (kept c.in_ok-next.after.now) (from_equal (init_places n) (kept c.loop.rest.now)
          (kept c.in-Some.after.now) (kept c.in_ok-next.after.now) c.in-Some.ensures.places
          c.in_ok-next.ensures.places) (c.loop.invariant.places start led));
      small = omega (arith, c.in_ok-next.ensures.small, c.max-nesting.ensures);
      measured = rw e (omega (
        arith,
        c.max-nesting.ensures,
        c.loop.invariant.measured,
        c.in_ok-next.next.measured,
        inits_nesting_push (map init_of c.loop.items.items) (init_of n),
      ));
      shorter = omega (arith, c.in-Some.ensures.shorter, c.in_ok-next.ensures.shorter);
    }

pub initialisers::items-returns-clause-gives : goal.initialisers::items-returns-clause-gives
initialisers::items-returns-clause-gives t c =
    let read = init_at c.args.limit in
    let total = items_end (init_of c.args.first.tree.value ∷ []) (items_with read (length
    (map spelled c.args.tokens.now))
    (map spelled c.args.tokens.now)) in
    items_run_out read total c.args.tokens.now c.loop.counter (map init_of c.loop.items.items)
    (map spelled c.loop.rest.now) c.loop-test.false c.loop.invariant.gives

pub initialisers::items-loop-init : goal.initialisers::items-loop-init
initialisers::items-loop-init t c =
    let none : length (map spelled c.args.tokens.now) - 0 ≡ length (map spelled c.args.tokens.now) = omega arith in
    record {
      gives = rw (c.in_ok-push_tree.ensures.items, c.new-items.ensures.items, none) refl;
      places = rw (c.in_ok-push_tree.ensures.items, c.new-items.ensures.items) (λ start led. led);
      small = c.requires.first;
      measured = rw (c.in_ok-push_tree.ensures.items, c.new-items.ensures.items) (omega
          (arith, c.args.first.measured));
      shorter = omega arith;
    }

pub initialisers::braces-returns-in_err-rest-clause-gives : goal.initialisers::braces-returns-in_err-rest-clause-gives
unfolding braces_with
initialisers::braces-returns-in_err-rest-clause-gives t c =
    let p = err_from_is_err_and c.from_residual.result c.from_residual.ensures.1 in
    rw (p.1, p.2) (part_fails c.in_err-rest.field-0.0 (after_sign (codes "{") (map spelled c.args.tokens.now)) _
    (λ n. rw n refl) c.in_err-rest.ensures.gives)

pub initialisers::braces-returns-in_err-first-clause-gives :
    goal.initialisers::braces-returns-in_err-first-clause-gives
unfolding braces_with
initialisers::braces-returns-in_err-first-clause-gives t c =
    let p = err_from_is_err_and c.from_residual-in_err-first.result c.from_residual-in_err-first.ensures.1 in
    rw (p.1, p.2) (part_fails c.in_err-first.field-0.0 (init_at c.args.limit (map spelled c.in_ok-rest.rest.now)) _
    (λ n. rw (c.in_ok-rest.ensures.gives, c.in_default.ensures.gives, n) refl) c.in_err-first.ensures.gives)

pub initialisers::braces-returns-in-Some-clause-gives : goal.initialisers::braces-returns-in-Some-clause-gives
unfolding braces_with
initialisers::braces-returns-in-Some-clause-gives t c =
    rw (c.in_ok-rest.ensures.gives, c.in-Some.ensures.gives, c.no_items.ensures.gives) refl
