use Rattle.std.proofs.Common.{◌≡◌, ◌++◌, ◌∷◌, [], ◌-◌, length, map, refl, sym, ◌∙◌, append_assoc, arith}
use Rattle.std.proofs.lemmas.Result.{err_from_is_err_and}
use Rattle.std.proofs.lemmas.List.{map_push}
use Rattle.java_tree.specs.View.{part_of}
use Rattle.java_tree.specs.KeptPlaces.{kept, part_places}
use Rattle.java_parser_grammar.specs.TypeReading.{points, tested_part_with, ty_at}
use Rattle.java_parser_types.specs.Tokens.{spelled}
use Rattle.java_parser_types.specs.Finishing.{finished}
use Rattle.java_parser_types.specs.Endings.{named_end}
use Rattle.java_parser_types.proofs.PutPlaces.{one_more}
use Rattle.java_parser_types.proofs.PushedNesting.{parts_nesting_push}
use Rattle.java_parser_types.proofs.ReadLoops.{point_goes_on, point_fails, point_ends, point_runs_out}
use Rattle.java_parser_types.proofs.tested_types.tested_parts.Goals as goal

pub loop-init : goal.loop-init
loop-init c =
    let none : length (map spelled c.args.tokens.now) - 0 ≡ length (map spelled c.args.tokens.now) = omega arith in
    record {
      gives = rw (c.in_ok-push.ensures.items, c.new-parts.ensures.items, none) refl;
      places = rw (c.in_ok-push.ensures.items, c.new-parts.ensures.items) (append_assoc (part_places
          c.args.first.tree) [] (kept c.args.tokens.now));
      small = c.requires.first;
      measured = rw (c.in_ok-push.ensures.items, c.new-parts.ensures.items) (omega (arith, c.args.first.measured));
      shorter = omega arith;
    }

pub returns-in_default-clause-gives : goal.returns-in_default-clause-gives
returns-in_default-clause-gives c =
    let read = tested_part_with c.args.limit (ty_at c.args.limit) in
    let total =
    finished named_end (part_of c.args.first.tree ∷ []) (points read (length (map spelled c.args.tokens.now))
    (map spelled c.args.tokens.now)) in
    point_ends read named_end total c.args.tokens.now c.loop.counter (map part_of c.loop.parts.items)
    (map spelled c.loop.rest.now) c.loop-test.true c.in_default.ensures.gives c.loop.invariant.gives
    ∙ sym c.named_base.ensures.gives

pub returns-in_err-next-clause-gives : goal.returns-in_err-next-clause-gives
returns-in_err-next-clause-gives c =
    let read = tested_part_with c.args.limit (ty_at c.args.limit) in
    let total =
    finished named_end (part_of c.args.first.tree ∷ []) (points read (length (map spelled c.args.tokens.now))
    (map spelled c.args.tokens.now)) in
    let p = err_from_is_err_and c.from_residual-in_err-next.result c.from_residual-in_err-next.ensures.1 in
    rw (p.1, p.2) (point_fails read named_end total c.args.tokens.now c.loop.counter
    (map part_of c.loop.parts.items) c.in_err-next.field-0.0 (map spelled c.loop.rest.now)
    (map spelled c.in-Some.after.now) c.loop-test.true c.in-Some.ensures.gives c.in_err-next.ensures.gives
    c.loop.invariant.gives)

pub loop-preserved : goal.loop-preserved
loop-preserved c =
    let n = c.in_ok-next.next.tree in
    let e : map part_of c.push-in-loop.new.self.items ≡ map part_of c.loop.parts.items ++ part_of n ∷ [] =
    rw c.in_ok-push-2.ensures.items (map_push _ c.loop.parts.items n) in
    let read = tested_part_with c.args.limit (ty_at c.args.limit) in
    let total =
    finished named_end (part_of c.args.first.tree ∷ []) (points read (length (map spelled c.args.tokens.now))
    (map spelled c.args.tokens.now)) in
    record {
      gives = rw e (point_goes_on read named_end total c.args.tokens.now c.loop.counter
          (map part_of c.loop.parts.items) (part_of n) (map spelled c.loop.rest.now) (map spelled c.in-Some.after.now)
          (map spelled c.in_ok-next.after.now) c.loop-test.true c.in-Some.ensures.gives c.in_ok-next.ensures.gives
          c.loop.invariant.gives);
      places = rw c.in_ok-push-2.ensures.items (one_more part_places c.loop.parts.items n (kept c.loop.rest.now)
          (kept c.in_ok-next.after.now) _ (c.in_ok-next.ensures.places ∙ c.in-Some.ensures.places)
          c.loop.invariant.places);
      small = omega (arith, c.in_ok-next.ensures.small, c.max-nesting.ensures);
      measured = rw e (omega (
        arith,
        c.max-nesting.ensures,
        c.loop.invariant.measured,
        c.in_ok-next.next.measured,
        parts_nesting_push (map part_of c.loop.parts.items) (part_of n),
      ));
      shorter = omega (arith, c.in-Some.ensures.shorter, c.in_ok-next.ensures.shorter);
    }

pub returns-clause-gives : goal.returns-clause-gives
returns-clause-gives c =
    let read = tested_part_with c.args.limit (ty_at c.args.limit) in
    let total =
    finished named_end (part_of c.args.first.tree ∷ []) (points read (length (map spelled c.args.tokens.now))
    (map spelled c.args.tokens.now)) in
    point_runs_out read named_end total c.args.tokens.now c.loop.counter (map part_of c.loop.parts.items)
    (map spelled c.loop.rest.now) c.loop-test.false c.loop.invariant.gives ∙ sym c.named_base-2.ensures.gives
