use Rattle.std.proofs.Common.{◌≡◌, ◌++◌, ◌∷◌, [], suc, length, map, arith, ◌-◌, refl}
use Rattle.std.proofs.lemmas.Result.{err_from_is_err_and}
use Rattle.std.proofs.lemmas.List.{map_push}
use Rattle.java_tree.specs.KeptPlaces.{kept, each_puts, resource_places, resources_places}
use Rattle.java_parser_types.proofs.LedMarks.{from_equal, led_through}
use Rattle.java_parser_types.proofs.PutPlaces.{one_put}
use Rattle.java_tree.specs.View.{resource_of}
use Rattle.java_parser_grammar.specs.StatementReading.{more_resources_at}
use Rattle.java_parser_grammar.specs.JavaReaders.{method_readers}
use Rattle.java_parser_methods.specs.RowReading.{resources_end, resources_close}
use Rattle.java_parser_types.specs.Tokens.{spelled}
use Rattle.java_parser_types.proofs.ReadLoops.{ends_give}
use Rattle.java_parser_methods.proofs.RowLoops.{resource_goes_on, resource_fails, resources_stop, no_resource}
use Rattle.java_parser_methods.proofs.try_heads.more_resources.Goals as goal
use Rattle.java_parser_methods.proofs.try_heads.more_resources.Goals.{else-loop-test, then-loop-test+in_default}

pub returns-in_err-next-clause-gives : goal.returns-in_err-next-clause-gives
returns-in_err-next-clause-gives c =
    let total = resources_end (resource_of c.args.first ∷ []) (more_resources_at method_readers c.args.limit
    (suc (length (map spelled c.args.tokens.now))) (map spelled c.args.tokens.now)) in
    let p = err_from_is_err_and c.from_residual-in_err-next.result c.from_residual-in_err-next.ensures.1 in
    rw (p.1, p.2) (resource_fails method_readers c.args.limit total c.args.tokens.now c.loop.counter
    (map resource_of c.loop.items.items) c.in_err-next.field-0.0 (map spelled c.loop.rest.now)
    (map spelled c.in-Some.after.now) c.loop-test.true c.in-Some.ensures.gives c.in_err-next.ensures.gives
    c.loop.invariant.gives)

pub loop-preserved : goal.loop-preserved
loop-preserved c =
    let n = c.in_ok-next.next in
    let e : map resource_of c.push-in-loop.new.self.items ≡ map resource_of c.loop.items.items ++ resource_of n ∷ [] =
    rw c.in_ok-push-2.ensures.items (map_push _ c.loop.items.items n) in
    let total = resources_end (resource_of c.args.first ∷ []) (more_resources_at method_readers c.args.limit
    (suc (length (map spelled c.args.tokens.now))) (map spelled c.args.tokens.now)) in
    record {
      gives = rw e (resource_goes_on method_readers c.args.limit total c.args.tokens.now c.loop.counter
          (map resource_of c.loop.items.items) (resource_of n) (map spelled c.loop.rest.now)
          (map spelled c.in-Some.after.now) (map spelled c.in_ok-next.after.now) c.loop-test.true
          c.in-Some.ensures.gives c.in_ok-next.ensures.gives c.loop.invariant.gives);
      places = rw c.in_ok-push-2.ensures.items (λ start led. one_put resource_places c.loop.items.items n start
          (kept c.loop.rest.now) (kept c.in_ok-next.after.now) (from_equal (resource_places n) (kept c.loop.rest.now)
          (kept c.in-Some.after.now) (kept c.in_ok-next.after.now) c.in-Some.ensures.places
          c.in_ok-next.ensures.places) (c.loop.invariant.places start led));
      few = omega (arith, c.in-Some.ensures.shorter, c.in_ok-next.ensures.shorter, c.loop.invariant.few);
    }

pub loop-init : goal.loop-init
loop-init c =
    let all : suc (length (map spelled c.args.tokens.now)) - 0 ≡ suc (length (map spelled c.args.tokens.now)) =
    omega arith in
    record {
      gives = rw (c.in_ok-push.ensures.items, c.new-items.ensures.items, all) refl;
      places = rw (c.in_ok-push.ensures.items, c.new-items.ensures.items) (λ start led. led);
      few = omega arith;
    }

pub returns-clause-gives : goal.returns-clause-gives
returns-clause-gives c =
    let total = resources_end (resource_of c.args.first ∷ []) (more_resources_at method_readers c.args.limit
    (suc (length (map spelled c.args.tokens.now))) (map spelled c.args.tokens.now)) in
    let rest = map spelled c.loop.rest.now in
    let stop : total ≡ resources_end (map resource_of c.loop.items.items) (resources_close rest) =
    elim c.loop-test.branch [
      | else-loop-test w ↦ resources_stop method_readers c.args.limit total c.args.tokens.now c.loop.counter
          (map resource_of c.loop.items.items) rest (omega (arith, c.loop.invariant.few)) (no_resource c.loop.rest.now
          (omega (arith, c.loop.invariant.few, w.loop-test.false))) c.loop.invariant.gives
      | then-loop-test+in_default w ↦ resources_stop method_readers c.args.limit total c.args.tokens.now c.loop.counter
          (map resource_of c.loop.items.items) rest (omega (arith, c.loop.invariant.few)) w.in_default.ensures.gives
          c.loop.invariant.gives
    ] in
    ends_give _ c.resources_end.result total _ stop c.resources_end.ensures.gives

pub returns-clause-places : goal.returns-clause-places
returns-clause-places c =
    led_through c.resources_end.result (λ x. resources_places x.0) (λ x. kept x.1.now) (resource_places c.args.first)
    (each_puts (map resource_places c.loop.items.items)) (kept c.args.tokens.now) (kept c.loop.rest.now)
    c.loop.invariant.places c.resources_end.ensures.places
