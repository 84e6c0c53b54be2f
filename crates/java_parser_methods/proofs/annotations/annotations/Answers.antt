use Rattle.std.proofs.Common.{◌≡◌, ◌++◌, ◌∷◌, [], map, arith, ◌-◌, refl}
use Rattle.std.proofs.lemmas.Result.{err_from_is_err_and}
use Rattle.std.proofs.lemmas.List.{map_push}
use Rattle.java_tree.specs.KeptPlaces.{kept}
use Rattle.java_tree.specs.KeptPlaces.{annotation_marks}
use Rattle.java_parser_types.proofs.LedMarks.{one_led, from_equal}
use Rattle.java_tree.specs.View.{annotation_of}
use Rattle.java_parser_grammar.specs.BalancedReading.{annotations_at}
use Rattle.java_parser_types.specs.Tokens.{spelled}
use Rattle.java_parser_methods.proofs.AnnotationLoops.{annotation_goes_on, annotation_fails, annotations_end}
use Rattle.java_parser_methods.proofs.AnnotationLoops.{annotations_run_out}
use Rattle.java_parser_methods.proofs.annotations.annotations.Goals as goal

pub returns-in_default-clause-gives : goal.returns-in_default-clause-gives
returns-in_default-clause-gives c =
    let total = annotations_at c.args.limit (map spelled c.args.tokens.now) in
    annotations_end total c.args.limit c.loop.counter (map annotation_of c.loop.items.items)
    (map spelled c.loop.rest.now) c.loop-test.true c.in_default.ensures.gives c.loop.invariant.gives

pub returns-in_err-next-clause-gives : goal.returns-in_err-next-clause-gives
returns-in_err-next-clause-gives c =
    let total = annotations_at c.args.limit (map spelled c.args.tokens.now) in
    let p = err_from_is_err_and c.from_residual.result c.from_residual.ensures.1 in
    rw (p.1, p.2) (annotation_fails total c.args.limit c.loop.counter (map annotation_of c.loop.items.items)
    c.in_err-next.field-0.0 (map spelled c.loop.rest.now) (map spelled c.in-Some.after.now) c.loop-test.true
    c.in-Some.ensures.gives c.in_err-next.ensures.gives c.loop.invariant.gives)

pub loop-preserved : goal.loop-preserved
loop-preserved c =
    let n = c.in_ok-next.next in
    let e : map annotation_of c.push.new.self.items ≡ map annotation_of c.loop.items.items ++ annotation_of n ∷ [] =
    rw c.in_ok-push.ensures.items (map_push _ c.loop.items.items n) in
    let total = annotations_at c.args.limit (map spelled c.args.tokens.now) in
    record {
      gives = rw e (annotation_goes_on total c.args.limit c.loop.counter (map annotation_of c.loop.items.items)
          (annotation_of n) (map spelled c.loop.rest.now) (map spelled c.in-Some.after.now)
          (map spelled c.in_ok-next.after.now) c.loop-test.true c.in-Some.ensures.gives c.in_ok-next.ensures.gives
          c.loop.invariant.gives);
      places = rw c.in_ok-push.ensures.items (one_led annotation_marks c.loop.items.items n _ (kept c.loop.rest.now)
          (kept c.in_ok-next.after.now) c.loop.invariant.places (from_equal (annotation_marks n) _ _ _
          c.in-Some.ensures.places c.in_ok-next.ensures.places));
      shorter = omega (arith, c.in-Some.ensures.shorter, c.in_ok-next.ensures.shorter);
    }

pub returns-clause-gives : goal.returns-clause-gives
returns-clause-gives c =
    let total = annotations_at c.args.limit (map spelled c.args.tokens.now) in
    annotations_run_out total c.args.limit c.loop.counter (map annotation_of c.loop.items.items)
    (map spelled c.loop.rest.now) c.loop-test.false c.loop.invariant.gives

pub loop-init : goal.loop-init
loop-init c =
    let none : c.args.limit - 0 ≡ c.args.limit = omega arith in
    record {
      gives = rw (c.new-items.ensures.items, none) refl;
      places = rw c.new-items.ensures.items (λ rest led. led);
      shorter = omega arith;
    }
