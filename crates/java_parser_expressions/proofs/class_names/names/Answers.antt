use Rattle.std.proofs.Common.{◌≡◌, ◌++◌, ◌∷◌, [], true, map, refl, ◌∙◌, arith}
use Rattle.std.proofs.lemmas.Result.{err_from_is_err_and}
use Rattle.std.proofs.lemmas.List.{map_push}
use Rattle.java_tree.specs.KeptPlaces.{kept, each_puts, expr_places, name_places}
use Rattle.java_tree.specs.View.{name_of}
use Rattle.java_parser_grammar.specs.ExpressionReading.{class_at}
use Rattle.java_parser_expressions.specs.ClassFollows.{class_behind, end_of}
use Rattle.java_parser_types.specs.Tokens.{spelled}
use Rattle.java_parser_types.proofs.LedMarks.{led_made_through, some_led}
use Rattle.java_parser_types.proofs.PutPlaces.{one_put}
use Rattle.java_parser_types.proofs.ReadLoops.{ends_give}
use Rattle.java_parser_types.proofs.LastCalls.{fewer}
use Rattle.java_parser_expressions.proofs.ClassFacts.{class_unpointed, class_goes_on, class_ends, class_fails}
use Rattle.java_parser_expressions.proofs.ClassFacts.{class_runs_out}
use Rattle.java_parser_expressions.proofs.class_names.names.Goals as goal

pub loop-init : goal.loop-init
loop-init c = record {
  gives = rw (c.in_ok-push.ensures.items, c.new-names.ensures.items) refl;
  places = rw (c.in_ok-push.ensures.items, c.new-names.ensures.items) (λ start led. led);
  within = omega arith;
}

pub loop-preserved : goal.loop-preserved
loop-preserved c =
    let n = c.in_ok-next.next in
    let e : map name_of c.push-in-loop.new.self.items ≡ map name_of c.loop.names.items ++ name_of n ∷ [] =
    rw c.in_ok-push-2.ensures.items (map_push _ c.loop.names.items n) in
    let total = class_behind (c.args.first.text ∷ []) (class_at true (map spelled c.args.tokens.now)) in
    record {
      gives = rw e (class_goes_on total (map name_of c.loop.names.items) (map spelled c.loop.rest.now) n.text
          (map spelled c.in_ok-after.after.now) (map spelled c.in_ok-next.behind.now) c.in_default.ensures.gives
          c.in_ok-after.ensures.gives c.in_ok-next.ensures.gives c.loop.invariant.gives);
      places = rw c.in_ok-push-2.ensures.items (λ start led. one_put name_places c.loop.names.items n start
          (kept c.loop.rest.now) (kept c.in_ok-next.behind.now) (some_led (n.place ∷ []) (kept c.in_ok-next.behind.now)
          (kept c.loop.rest.now) (c.in_ok-next.ensures.places ∙ c.in_ok-after.ensures.places))
          (c.loop.invariant.places start led));
      within = omega (arith, c.in_ok-after.ensures.shorter, c.in_ok-next.ensures.shorter);
    }

pub returns-in_err-after-clause-gives : goal.returns-in_err-after-clause-gives
returns-in_err-after-clause-gives c =
    let total = class_behind (c.args.first.text ∷ []) (class_at true (map spelled c.args.tokens.now)) in
    let p = err_from_is_err_and c.from_residual-in_err-after.result c.from_residual-in_err-after.ensures.1 in
    rw (p.1, p.2) (class_unpointed total (map name_of c.loop.names.items) (map spelled c.loop.rest.now)
    c.in_err-after.field-0.0 c.in_default.ensures.gives c.in_err-after.ensures.gives c.loop.invariant.gives)

pub returns-in-Some-clause-gives : goal.returns-in-Some-clause-gives
returns-in-Some-clause-gives c =
    let total = class_behind (c.args.first.text ∷ []) (class_at true (map spelled c.args.tokens.now)) in
    ends_give _ c.class_of.result total _ (class_ends total (map name_of c.loop.names.items)
    (map spelled c.loop.rest.now) (end_of c.in-Some.end) (map spelled c.in-Some.behind.now) c.in-Some.ensures.gives
    c.loop.invariant.gives) c.class_of.ensures.gives

pub returns-in-Some-clause-places : goal.returns-in-Some-clause-places
returns-in-Some-clause-places c =
    let behind = rw c.in-Some.ensures.places at c.class_of.ensures.behind in
    led_made_through c.class_of.result (λ x. expr_places x.0.tree.value) (λ x. kept x.1.now) (name_places c.args.first)
    (each_puts (map name_places c.loop.names.items)) (kept c.args.tokens.now) (kept c.loop.rest.now)
    c.loop.invariant.places c.class_of.ensures.places behind

pub returns-in-Some-clause-shorter : goal.returns-in-Some-clause-shorter
returns-in-Some-clause-shorter c =
    fewer _ c.class_of.result _ _ c.class_of.ensures.shorter (omega (
      arith,
      c.in-Some.ensures.shorter,
      c.loop.invariant.within,
    ))

pub returns-in_err-next-clause-gives : goal.returns-in_err-next-clause-gives
returns-in_err-next-clause-gives c =
    let total = class_behind (c.args.first.text ∷ []) (class_at true (map spelled c.args.tokens.now)) in
    let p = err_from_is_err_and c.from_residual-in_err-next.result c.from_residual-in_err-next.ensures.1 in
    rw (p.1, p.2) (class_fails total (map name_of c.loop.names.items) (map spelled c.loop.rest.now)
    c.in_err-next.field-0.0 (map spelled c.in_ok-after.after.now) c.in_default.ensures.gives
    c.in_ok-after.ensures.gives c.in_err-next.ensures.gives c.loop.invariant.gives)

pub returns-clause-gives : goal.returns-clause-gives
returns-clause-gives c =
    let total = class_behind (c.args.first.text ∷ []) (class_at true (map spelled c.args.tokens.now)) in
    class_runs_out total (map name_of c.loop.names.items) c.loop.rest.now (omega arith) c.loop.invariant.gives
