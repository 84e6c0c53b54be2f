use Rattle.std.proofs.Common.{◌≡◌, ◌++◌, ◌∷◌, [], length, map, arith, ◌-◌, refl}
use Rattle.std.proofs.lemmas.Result.{err_from_is_err_and}
use Rattle.std.proofs.lemmas.List.{map_push}
use Rattle.java_tree.specs.KeptPlaces.{kept, expr_places}
use Rattle.java_parser_types.proofs.LedMarks.{from_equal}
use Rattle.java_parser_types.proofs.PutPlaces.{one_put}
use Rattle.java_tree.specs.View.{expr_of}
use Rattle.java_parser_grammar.specs.Taking.{commas}
use Rattle.java_parser_grammar.specs.StatementReading.{run_at}
use Rattle.java_parser_grammar.specs.JavaReaders.{method_readers}
use Rattle.java_parser_types.specs.Tokens.{spelled}
use Rattle.java_parser_types.specs.Finishing.{finished}
use Rattle.java_parser_types.specs.Endings.{as_they_are}
use Rattle.java_parser_types.proofs.ReadLoops.{comma_goes_on, comma_fails, comma_ends, comma_runs_out}
use Rattle.java_parser_methods.proofs.heads.more_runs.Goals as goal
use Rattle.java_parser_methods.proofs.heads.more_runs.Goals.{else-loop-test, then-loop-test+in_default}

pub returns-in_err-next-clause-gives : goal.returns-in_err-next-clause-gives
returns-in_err-next-clause-gives c =
    let read = run_at method_readers c.args.limit in
    let total = finished as_they_are (expr_of c.args.first.value ∷ []) (commas read (length
    (map spelled c.args.tokens.now))
    (map spelled c.args.tokens.now)) in
    let p = err_from_is_err_and c.from_residual-in_err-next.result c.from_residual-in_err-next.ensures.1 in
    rw (p.1, p.2) (comma_fails read as_they_are total c.args.tokens.now c.loop.counter
    (map expr_of c.loop.items.items) c.in_err-next.field-0.0 (map spelled c.loop.rest.now)
    (map spelled c.in-Some.after.now) c.loop-test.true c.in-Some.ensures.gives c.in_err-next.ensures.gives
    c.loop.invariant.gives)

pub loop-preserved : goal.loop-preserved
loop-preserved c =
    let n = c.in_ok-next.next.value in
    let e : map expr_of c.push_tree-in-loop.new.trees.items ≡ map expr_of c.loop.items.items ++ expr_of n ∷ [] =
    rw c.in_ok-push_tree-2.ensures.items (map_push _ c.loop.items.items n) in
    let read = run_at method_readers c.args.limit in
    let total = finished as_they_are (expr_of c.args.first.value ∷ []) (commas read (length
    (map spelled c.args.tokens.now))
    (map spelled c.args.tokens.now)) in
    record {
      gives = rw e (comma_goes_on read as_they_are total c.args.tokens.now c.loop.counter
          (map expr_of c.loop.items.items) (expr_of n) (map spelled c.loop.rest.now) (map spelled c.in-Some.after.now)
          (map spelled c.in_ok-next.after.now) c.loop-test.true c.in-Some.ensures.gives c.in_ok-next.ensures.gives
          c.loop.invariant.gives);
      places = rw c.in_ok-push_tree-2.ensures.items (λ start led. one_put expr_places c.loop.items.items n start
          (kept c.loop.rest.now) (kept c.in_ok-next.after.now) (from_equal (expr_places n) (kept c.loop.rest.now)
          (kept c.in-Some.after.now) (kept c.in_ok-next.after.now) c.in-Some.ensures.places
          c.in_ok-next.ensures.places) (c.loop.invariant.places start led));
      shorter = omega (arith, c.in-Some.ensures.shorter, c.in_ok-next.ensures.shorter);
    }

pub returns-clause-gives : goal.returns-clause-gives
returns-clause-gives c =
    let read = run_at method_readers c.args.limit in
    let total = finished as_they_are (expr_of c.args.first.value ∷ []) (commas read (length
    (map spelled c.args.tokens.now))
    (map spelled c.args.tokens.now)) in
    elim c.loop-test.branch [
      | else-loop-test w ↦ comma_runs_out read as_they_are total c.args.tokens.now c.loop.counter
          (map expr_of c.loop.items.items) (map spelled c.loop.rest.now) w.loop-test.false c.loop.invariant.gives
      | then-loop-test+in_default w ↦ comma_ends read as_they_are total c.args.tokens.now c.loop.counter
          (map expr_of c.loop.items.items) (map spelled c.loop.rest.now) w.loop-test.true w.in_default.ensures.gives
          c.loop.invariant.gives
    ]

pub loop-init : goal.loop-init
loop-init c =
    let none : length (map spelled c.args.tokens.now) - 0 ≡ length (map spelled c.args.tokens.now) = omega arith in
    record {
      gives = rw (c.in_ok-push_tree.ensures.items, c.new-items.ensures.items, none) refl;
      places = rw (c.in_ok-push_tree.ensures.items, c.new-items.ensures.items) (λ start led. led);
      shorter = omega arith;
    }
