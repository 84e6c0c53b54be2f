use Rattle.std.proofs.Common.{◌≡◌, ◌++◌, ◌∷◌, [], length, map, arith, ◌-◌, refl}
use Rattle.std.proofs.lemmas.Result.{err_from_is_err_and}
use Rattle.std.proofs.lemmas.List.{map_push}
use Rattle.java_tree.specs.KeptPlaces.{kept}
use Rattle.java_tree.specs.KeptPlaces.{modifier_marks}
use Rattle.java_parser_types.proofs.LedMarks.{one_led}
use Rattle.java_tree.specs.View.{modifier_of}
use Rattle.java_parser_methods.specs.ModifierReading.{listed_at}
use Rattle.java_parser_types.specs.Tokens.{spelled}
use Rattle.java_parser_methods.proofs.ModifierLoops.{modifier_goes_on, modifier_fails, modifiers_end}
use Rattle.java_parser_methods.proofs.ModifierLoops.{modifiers_run_out}
use Rattle.java_parser_methods.proofs.modifiers.listed.Goals as goal

pub returns-in_err-next-clause-gives : goal.returns-in_err-next-clause-gives
returns-in_err-next-clause-gives c =
    let total = listed_at c.args.words (length (map spelled c.args.tokens.now)) (map spelled c.args.tokens.now) in
    let p = err_from_is_err_and c.from_residual.result c.from_residual.ensures.1 in
    rw (p.1, p.2) (modifier_fails total c.args.tokens.now c.loop.counter (map modifier_of c.loop.items.items)
    c.loop.words c.in_err-next.field-0.0 (map spelled c.loop.rest.now) c.loop-test.true c.in_err-next.ensures.gives
    c.loop.invariant.gives)

pub returns-in_default-clause-gives : goal.returns-in_default-clause-gives
returns-in_default-clause-gives c =
    let total = listed_at c.args.words (length (map spelled c.args.tokens.now)) (map spelled c.args.tokens.now) in
    modifiers_end total c.args.tokens.now c.loop.counter (map modifier_of c.loop.items.items) c.loop.words
    (map spelled c.loop.rest.now) c.loop-test.true (rw c.in_default.is at c.in_ok-next.ensures.gives)
    c.loop.invariant.gives

pub loop-preserved : goal.loop-preserved
loop-preserved c =
    let n = c.in-Some.next in
    let e : map modifier_of c.push.new.self.items ≡ map modifier_of c.loop.items.items ++ modifier_of n ∷ [] =
    rw c.in_ok-push.ensures.items (map_push _ c.loop.items.items n) in
    let total = listed_at c.args.words (length (map spelled c.args.tokens.now)) (map spelled c.args.tokens.now) in
    record {
      gives = rw (e, c.words_behind-words.ensures) (modifier_goes_on total c.args.tokens.now c.loop.counter
          (map modifier_of c.loop.items.items) c.loop.words (modifier_of n) (map spelled c.loop.rest.now)
          (map spelled c.in-Some.after.now) c.loop-test.true
          (rw c.in-Some.is at c.in_ok-next.ensures.gives) c.loop.invariant.gives);
      places = rw c.in_ok-push.ensures.items (one_led modifier_marks c.loop.items.items n _ (kept c.loop.rest.now)
          (kept c.in-Some.after.now) c.loop.invariant.places (rw c.in-Some.is at c.in_ok-next.ensures.places));
      shorter = omega (arith, rw c.in-Some.is at c.in_ok-next.ensures.shorter);
    }

pub returns-clause-gives : goal.returns-clause-gives
returns-clause-gives c =
    let total = listed_at c.args.words (length (map spelled c.args.tokens.now)) (map spelled c.args.tokens.now) in
    modifiers_run_out total c.args.tokens.now c.loop.counter (map modifier_of c.loop.items.items) c.loop.words
    (map spelled c.loop.rest.now) c.loop-test.false c.loop.invariant.gives

pub loop-init : goal.loop-init
loop-init c =
    let none : length (map spelled c.args.tokens.now) - 0 ≡ length (map spelled c.args.tokens.now) = omega arith in
    record {
      gives = rw (c.new-items.ensures.items, none) refl;
      places = rw c.new-items.ensures.items (λ rest led. led);
      shorter = omega arith;
    }
