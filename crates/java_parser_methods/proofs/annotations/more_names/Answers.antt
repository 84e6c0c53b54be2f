use Rattle.std.proofs.Common.{◌∙◌, ◌∷◌, [], length, map, arith, ◌≡◌, ◌-◌, refl}
use Rattle.std.proofs.lemmas.Result.{err_from_is_err_and}
use Rattle.java_tree.specs.KeptPlaces.{kept}
use Rattle.java_tree.specs.KeptPlaces.{no_name}
use Rattle.java_parser_types.proofs.LedMarks.{one_led, name_led}
use Rattle.java_parser_grammar.specs.Taking.{after_name}
use Rattle.java_parser_grammar.specs.TypeReading.{points}
use Rattle.java_parser_types.specs.Tokens.{spelled}
use Rattle.java_parser_types.specs.Finishing.{finished}
use Rattle.java_parser_types.specs.Endings.{as_they_are}
use Rattle.java_parser_types.proofs.ReadLoops.{point_goes_on, point_fails, point_ends, point_runs_out}
use Rattle.java_parser_methods.proofs.annotations.more_names.Goals as goal

pub returns-in_default-clause-gives : goal.returns-in_default-clause-gives
returns-in_default-clause-gives c =
    let total = finished as_they_are (c.args.first ∷ []) (points after_name (length (map spelled c.args.tokens.now))
    (map spelled c.args.tokens.now)) in
    point_ends after_name as_they_are total c.args.tokens.now c.loop.counter c.loop.items.items
    (map spelled c.loop.rest.now) c.loop-test.true c.in_default.ensures.gives c.loop.invariant.gives

pub returns-in_err-next-clause-gives : goal.returns-in_err-next-clause-gives
returns-in_err-next-clause-gives c =
    let total = finished as_they_are (c.args.first ∷ []) (points after_name (length (map spelled c.args.tokens.now))
    (map spelled c.args.tokens.now)) in
    let p = err_from_is_err_and c.from_residual-in_err-next.result c.from_residual-in_err-next.ensures.1 in
    rw (p.1, p.2) (point_fails after_name as_they_are total c.args.tokens.now c.loop.counter c.loop.items.items
    c.in_err-next.field-0.0 (map spelled c.loop.rest.now) (map spelled c.in-Some.after.now) c.loop-test.true
    c.in-Some.ensures.gives c.in_err-next.ensures.gives c.loop.invariant.gives)

pub loop-preserved : goal.loop-preserved
loop-preserved c =
    let n = c.in_ok-next.next.text in
    let total = finished as_they_are (c.args.first ∷ []) (points after_name (length (map spelled c.args.tokens.now))
    (map spelled c.args.tokens.now)) in
    record {
      gives = rw c.in_ok-push-2.ensures.items (point_goes_on after_name as_they_are total c.args.tokens.now
          c.loop.counter c.loop.items.items n (map spelled c.loop.rest.now) (map spelled c.in-Some.after.now)
          (map spelled c.in_ok-next.after.now) c.loop-test.true c.in-Some.ensures.gives c.in_ok-next.ensures.gives
          c.loop.invariant.gives);
      places = rw c.in_ok-push-2.ensures.items (λ start first. one_led no_name c.loop.items.items n start
          (kept c.loop.rest.now) (kept c.in_ok-next.after.now) (c.loop.invariant.places start first)
          (name_led n c.in_ok-next.next.place _ _ (c.in_ok-next.ensures.places ∙ c.in-Some.ensures.places)));
      shorter = omega (arith, c.in-Some.ensures.shorter, c.in_ok-next.ensures.shorter);
    }

pub returns-clause-gives : goal.returns-clause-gives
returns-clause-gives c =
    let total = finished as_they_are (c.args.first ∷ []) (points after_name (length (map spelled c.args.tokens.now))
    (map spelled c.args.tokens.now)) in
    point_runs_out after_name as_they_are total c.args.tokens.now c.loop.counter c.loop.items.items
    (map spelled c.loop.rest.now) c.loop-test.false c.loop.invariant.gives

pub loop-init : goal.loop-init
loop-init c =
    let none : length (map spelled c.args.tokens.now) - 0 ≡ length (map spelled c.args.tokens.now) = omega arith in
    record {
      gives = rw (c.in_ok-push.ensures.items, c.new-items.ensures.items, none) refl;
      places = rw (c.in_ok-push.ensures.items, c.new-items.ensures.items) (λ start led. led);
      shorter = omega arith;
    }
