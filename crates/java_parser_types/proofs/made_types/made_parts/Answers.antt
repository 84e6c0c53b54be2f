use Rattle.std.proofs.Common.{◌≡◌, ◌++◌, ◌∷◌, [], length, map, ap, ◌∙◌, arith}
use Rattle.std.proofs.lemmas.Result.{err_from_is_err_and}
use Rattle.std.proofs.lemmas.List.{map_push}
use Rattle.java_tree.specs.View.{part_of}
use Rattle.java_tree.specs.KeptPlaces.{Places, kept, part_places}
use Rattle.java_parser_grammar.specs.TypeReading.{made_parts_with, ty_at}
use Rattle.java_parser_types.specs.Tokens.{spelled}
use Rattle.java_parser_types.specs.Finishing.{finished}
use Rattle.java_parser_types.specs.Endings.{named_end}
use Rattle.java_parser_types.proofs.PutPlaces.{one_more}
use Rattle.java_parser_types.proofs.PushedNesting.{parts_nesting_push}
use Rattle.java_parser_types.proofs.MadePartLoop.{made_goes_on, made_ends, made_fails, made_runs_out}
use Rattle.java_parser_types.proofs.made_types.made_parts.Goals as goal

pub returns-in_err-next-clause-gives : goal.returns-in_err-next-clause-gives
returns-in_err-next-clause-gives c =
    let total = finished named_end [] (made_parts_with (ty_at c.args.limit) (length (map spelled c.args.tokens.now))
    (map spelled c.args.tokens.now)) in
    let p = err_from_is_err_and c.from_residual.result c.from_residual.ensures.1 in
    rw (p.1, p.2) (made_fails (ty_at c.args.limit) named_end total c.args.tokens.now c.loop.counter
    (map part_of c.loop.parts.items) c.in_err-next.field-0.0 (map spelled c.loop.rest.now) c.loop-test.true
    c.in_err-next.ensures.gives c.loop.invariant.gives)

pub named_base-requires : goal.named_base-requires
named_base-requires c =
    let n = c.in_ok-next.next.tree in
    let e : map part_of c.push.new.self.items ≡ map part_of c.loop.parts.items ++ part_of n ∷ [] =
    rw c.in_ok-push.ensures.items (map_push _ c.loop.parts.items n) in
    record {
      measured = rw e (omega (
        arith,
        c.max-nesting.ensures,
        c.loop.invariant.measured,
        c.in_ok-next.next.measured,
        parts_nesting_push (map part_of c.loop.parts.items) (part_of n),
      ));
    }

pub returns-in_default-clause-gives : goal.returns-in_default-clause-gives
returns-in_default-clause-gives c =
    let n = c.in_ok-next.next.tree in
    let e : map part_of c.push.new.self.items ≡ map part_of c.loop.parts.items ++ part_of n ∷ [] =
    rw c.in_ok-push.ensures.items (map_push _ c.loop.parts.items n) in
    let total = finished named_end [] (made_parts_with (ty_at c.args.limit) (length (map spelled c.args.tokens.now))
    (map spelled c.args.tokens.now)) in
    rw c.named_base.ensures.gives (rw e (made_ends (ty_at c.args.limit) named_end total c.args.tokens.now c.loop.counter
    (map part_of c.loop.parts.items) (part_of n) (map spelled c.loop.rest.now)
    (map spelled c.in_ok-next.behind.now) c.loop-test.true c.in_ok-next.ensures.gives c.in_default.ensures.gives
    c.loop.invariant.gives))

pub returns-in_default-clause-places : goal.returns-in_default-clause-places
returns-in_default-clause-places c =
    rw (c.named_base.ensures.places, c.named_base.ensures.same, c.in_ok-push.ensures.items) (one_more part_places
    c.loop.parts.items c.in_ok-next.next.tree (kept c.loop.rest.now) (kept c.in_ok-next.behind.now) _
    c.in_ok-next.ensures.places c.loop.invariant.places)

pub loop-preserved : goal.loop-preserved
loop-preserved c =
    let n = c.in_ok-next.next.tree in
    let e : map part_of c.push.new.self.items ≡ map part_of c.loop.parts.items ++ part_of n ∷ [] =
    rw c.in_ok-push.ensures.items (map_push _ c.loop.parts.items n) in
    let total = finished named_end [] (made_parts_with (ty_at c.args.limit) (length (map spelled c.args.tokens.now))
    (map spelled c.args.tokens.now)) in
    record {
      gives = rw e (made_goes_on (ty_at c.args.limit) named_end total c.args.tokens.now c.loop.counter
          (map part_of c.loop.parts.items) (part_of n) (map spelled c.loop.rest.now)
          (map spelled c.in_ok-next.behind.now) (map spelled c.in-Some.after.now) c.loop-test.true
          c.in_ok-next.ensures.gives c.in-Some.ensures.gives c.loop.invariant.gives);
      places = rw c.in_ok-push.ensures.items (one_more part_places c.loop.parts.items n (kept c.loop.rest.now)
          (kept c.in-Some.after.now) _ (ap (λ (ps : Places). part_places n ++ ps) c.in-Some.ensures.places
          ∙ c.in_ok-next.ensures.places) c.loop.invariant.places);
      small = omega (arith, c.in_ok-next.ensures.small, c.max-nesting.ensures);
      measured = rw e (omega (
        arith,
        c.max-nesting.ensures,
        c.loop.invariant.measured,
        c.in_ok-next.next.measured,
        parts_nesting_push (map part_of c.loop.parts.items) (part_of n),
      ));
      shorter = omega (arith, c.in-Some.ensures.shorter, c.in_ok-next.ensures.shorter);
    }

pub returns-clause-gives : goal.returns-clause-gives
returns-clause-gives c =
    let total = finished named_end [] (made_parts_with (ty_at c.args.limit) (length (map spelled c.args.tokens.now))
    (map spelled c.args.tokens.now)) in
    made_runs_out (ty_at c.args.limit) named_end total c.args.tokens.now c.loop.counter
    (map part_of c.loop.parts.items) (map spelled c.loop.rest.now) c.loop-test.false c.loop.invariant.gives
