-- The arguments of a call.
use Rattle.std.proofs.Common.{◌≡◌, [], ◌∷◌, ◌++◌, map, refl, arith, length, ◌-◌}
use Rattle.std.proofs.lemmas.List.{map_push}
use Rattle.std.proofs.lemmas.Result.{err_from_is_err_and}
use Rattle.java_tree.specs.KeptPlaces.{kept, expr_places}
use Rattle.java_tree.specs.Operators.{assignment_level}
use Rattle.java_tree.specs.View.{expr_of}
use Rattle.java_parser_grammar.specs.ExpressionReading.{read_at, call_arguments_with}
use Rattle.java_parser_grammar.specs.Taking.{commas}
use Rattle.java_parser_types.proofs.LastCalls.{exactly, fewer}
use Rattle.java_parser_types.proofs.LedMarks.{from_equal, led_made_through}
use Rattle.java_parser_types.proofs.PushedNesting.{exprs_nesting_push}
use Rattle.java_parser_types.proofs.PutPlaces.{one_put}
use Rattle.java_parser_types.proofs.ReadLoops.{ends_give, comma_goes_on, comma_fails, comma_ends, comma_runs_out}
use Rattle.java_parser_types.proofs.ReadParts.{part_fails}
use Rattle.java_parser_types.specs.Endings.{call_end}
use Rattle.java_parser_types.specs.Finishing.{finished}
use Rattle.java_parser_types.specs.Tokens.{spelled}
use Rattle.java_parser_expressions.proofs.+expressions.Goals.{arguments::arguments-else-loop-test}
use Rattle.java_parser_expressions.proofs.+expressions.Goals.{arguments::arguments-then-loop-test+in_default}
use Rattle.java_parser_expressions.proofs.+expressions.Goals as goal

pub arguments::arguments-returns-in_err-next-clause-gives : goal.arguments::arguments-returns-in_err-next-clause-gives
arguments::arguments-returns-in_err-next-clause-gives t c =
    let read = read_at c.args.limit assignment_level in
    let total =
    finished call_end (expr_of c.args.first.tree.value ∷ []) (commas read (length (map spelled c.args.tokens.now))
    (map spelled c.args.tokens.now)) in
    let p = err_from_is_err_and c.from_residual-in_err-next.result c.from_residual-in_err-next.ensures.1 in
    rw (p.1, p.2) (comma_fails read call_end total c.args.tokens.now c.loop.counter (map expr_of c.loop.trees.items)
    c.in_err-next.field-0.0 (map spelled c.loop.rest.now) (map spelled c.in-Some.after.now) c.loop-test.true
    c.in-Some.ensures.gives c.in_err-next.ensures.gives c.loop.invariant.gives)

pub arguments::arguments-loop-preserved : goal.arguments::arguments-loop-preserved
arguments::arguments-loop-preserved t c =
    let n = c.in_ok-next.next.tree.value in
    let e : map expr_of c.push_tree-in-loop.new.trees.items ≡ map expr_of c.loop.trees.items ++ expr_of n ∷ [] =
    rw c.in_ok-push_tree-2.ensures.items (map_push _ c.loop.trees.items n) in
    let read = read_at c.args.limit assignment_level in
    let total =
    finished call_end (expr_of c.args.first.tree.value ∷ []) (commas read (length (map spelled c.args.tokens.now))
    (map spelled c.args.tokens.now)) in
    record {
      gives = rw e (comma_goes_on read call_end total c.args.tokens.now c.loop.counter
          (map expr_of c.loop.trees.items) (expr_of n) (map spelled c.loop.rest.now) (map spelled c.in-Some.after.now)
          (map spelled c.in_ok-next.after.now) c.loop-test.true c.in-Some.ensures.gives c.in_ok-next.ensures.gives
          c.loop.invariant.gives);
      places = rw c.in_ok-push_tree-2.ensures.items (λ start led. one_put expr_places c.loop.trees.items n start
          (kept c.loop.rest.now) (kept c.in_ok-next.after.now) (from_equal (expr_places n) (kept c.loop.rest.now)
          (kept c.in-Some.after.now) (kept c.in_ok-next.after.now) c.in-Some.ensures.places
          c.in_ok-next.ensures.places) (c.loop.invariant.places start led));
      small = omega (arith, c.in_ok-next.ensures.small, c.max-nesting.ensures);
      measured = rw e (omega (
        arith,
        c.max-nesting.ensures,
        c.loop.invariant.measured,
        c.in_ok-next.next.measured,
        exprs_nesting_push (map expr_of c.loop.trees.items) (expr_of n),
      ));
      shorter = omega (arith, c.in-Some.ensures.shorter, c.in_ok-next.ensures.shorter);
    }

pub arguments::arguments-returns : goal.arguments::arguments-returns
arguments::arguments-returns t c =
    record {
      gives =
          let read = read_at c.args.limit assignment_level in
          let total =
          finished call_end (expr_of c.args.first.tree.value ∷ []) (commas read (length
          (map spelled c.args.tokens.now))
          (map spelled c.args.tokens.now)) in
          elim c.loop-test.branch [
            | arguments::arguments-else-loop-test w ↦ ends_give _ c.call_end.result total _
                (comma_runs_out read call_end
                total c.args.tokens.now c.loop.counter (map expr_of c.loop.trees.items) (map spelled c.loop.rest.now)
                w.loop-test.false c.loop.invariant.gives) c.call_end.ensures.gives
            | arguments::arguments-then-loop-test+in_default w ↦ ends_give _ c.call_end.result total _
                (comma_ends read
                call_end total c.args.tokens.now c.loop.counter (map expr_of c.loop.trees.items)
                (map spelled c.loop.rest.now) w.loop-test.true w.in_default.ensures.gives c.loop.invariant.gives)
                c.call_end.ensures.gives
          ];
      places = led_made_through c.call_end.result _ _ _ _ _ _ c.loop.invariant.places c.call_end.ensures.places
          c.call_end.ensures.behind;
      small = exactly _ c.call_end.result _ _ c.call_end.ensures.small c.loop.invariant.small;
      shorter = fewer _ c.call_end.result _ _ c.call_end.ensures.shorter (omega (arith, c.loop.invariant.shorter));
    }

pub arguments::arguments-loop-init : goal.arguments::arguments-loop-init
arguments::arguments-loop-init t c =
    let none : length (map spelled c.args.tokens.now) - 0 ≡ length (map spelled c.args.tokens.now) = omega arith in
    record {
      gives = rw (c.in_ok-push_tree.ensures.items, c.new-trees.ensures.items, none) refl;
      places = rw (c.in_ok-push_tree.ensures.items, c.new-trees.ensures.items) (λ start led. led);
      small = c.requires.first;
      measured = rw (c.in_ok-push_tree.ensures.items, c.new-trees.ensures.items) (omega
          (arith, c.args.first.measured));
      shorter = omega arith;
    }

pub arguments::call_arguments-returns-in-Some-clause-gives :
    goal.arguments::call_arguments-returns-in-Some-clause-gives
unfolding call_arguments_with
arguments::call_arguments-returns-in-Some-clause-gives t c =
    rw (c.in-Some.ensures.gives, c.no_arguments.ensures.gives) refl

pub arguments::call_arguments-returns-in_err-first-clause-gives :
    goal.arguments::call_arguments-returns-in_err-first-clause-gives
unfolding call_arguments_with
arguments::call_arguments-returns-in_err-first-clause-gives t c =
    let p = err_from_is_err_and c.from_residual.result c.from_residual.ensures.1 in
    rw (p.1, p.2) (part_fails c.in_err-first.field-0.0 (read_at c.args.limit assignment_level
    (map spelled c.args.tokens.now)) _ (λ n. rw (c.in_default.ensures.gives, n) refl) c.in_err-first.ensures.gives)

pub arguments::call_arguments-returns-clause-gives : goal.arguments::call_arguments-returns-clause-gives
unfolding call_arguments_with
arguments::call_arguments-returns-clause-gives t c =
    rw (c.in_default.ensures.gives, c.in_ok-first.ensures.gives) c.arguments.ensures.gives
