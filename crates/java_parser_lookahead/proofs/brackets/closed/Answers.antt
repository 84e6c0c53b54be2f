use Rattle.std.proofs.Common.{◌≡◌, ℕ, List, [], ◌∷◌, length, map, sym, ap, ◌∙◌, arith, refl}
use Rattle.std.proofs.lemmas.List.{nil_from_length}
use Rattle.std.proofs.lemmas.Result.{err_from_is_err_and}
use Rattle.java_tree.specs.KeptPlaces.{kept}
use Rattle.java_tree.specs.KeptPlaces.{no_place}
use Rattle.java_parser_types.proofs.LedMarks.{one_led, token_led}
use Rattle.java_parser_grammar.specs.BalancedReading.{closed_at}
use Rattle.java_parser_lookahead.specs.AwaitedBrackets.{closing, awaited_onto}
use Rattle.java_parser_types.specs.Tokens.{spelled}
use Rattle.java_parser_types.specs.Finishing.{finished}
use Rattle.java_parser_types.specs.Endings.{as_they_are}
use Rattle.java_parser_lookahead.proofs.BracketLoops.{awaited_push, closed_goes_on, closed_fails, closed_lacks}
use Rattle.java_parser_lookahead.proofs.BracketLoops.{closed_ends}
use Rattle.java_parser_lookahead.proofs.brackets.closed.Goals as goal

pub returns-in_err-next-clause-gives : goal.returns-in_err-next-clause-gives
returns-in_err-next-clause-gives c =
    let front = c.loop-inner.items.items in
    let inner = closing c.in-Some.inner in
    let outer = awaited_onto c.pop.new.self.items [] in
    let total = finished as_they_are (c.args.first ∷ []) (closed_at (closing c.args.bracket ∷ []) (map spelled
    c.args.tokens.now)) in
    let w : awaited_onto c.loop-inner.open.items [] ≡ inner ∷ outer =
    rw c.in-Some.ensures.items (awaited_push c.pop.new.self.items c.in-Some.inner []) in
    let so_far : finished as_they_are front (closed_at (inner ∷ outer) (map spelled c.loop-inner.rest.now)) ≡ total =
    ap (λ (l : List (List ℕ)). finished as_they_are front (closed_at l (map spelled c.loop-inner.rest.now)))
    (sym w) ∙ c.loop-inner.invariant.gives in
    let p = err_from_is_err_and c.from_residual-in_err-next.result c.from_residual-in_err-next.ensures.1 in
    rw (p.1, p.2) (closed_lacks total front inner outer c.in_err-next.field-0.0 (map spelled c.loop-inner.rest.now)
    c.in_err-next.ensures.gives so_far)

pub returns-in_err-pass-clause-gives : goal.returns-in_err-pass-clause-gives
returns-in_err-pass-clause-gives c =
    let front = c.loop-inner.items.items in
    let inner = closing c.in-Some.inner in
    let outer = awaited_onto c.pop.new.self.items [] in
    let total = finished as_they_are (c.args.first ∷ []) (closed_at (closing c.args.bracket ∷ []) (map spelled
    c.args.tokens.now)) in
    let w : awaited_onto c.loop-inner.open.items [] ≡ inner ∷ outer =
    rw c.in-Some.ensures.items (awaited_push c.pop.new.self.items c.in-Some.inner []) in
    let so_far : finished as_they_are front (closed_at (inner ∷ outer) (map spelled c.loop-inner.rest.now)) ≡ total =
    ap (λ (l : List (List ℕ)). finished as_they_are front (closed_at l (map spelled c.loop-inner.rest.now)))
    (sym w) ∙ c.loop-inner.invariant.gives in
    let p = err_from_is_err_and c.from_residual-in_err-pass.result c.from_residual-in_err-pass.ensures.1 in
    rw (p.1, p.2) (closed_fails total front inner outer c.in_err-pass.field-0.0 (spelled c.in_ok-next.next.now)
    (map spelled c.loop-inner.rest.now) (map spelled c.in_ok-next.after.now) c.in_ok-next.ensures.gives
    c.in_err-pass.ensures so_far)

pub loop-inner-preserved : goal.loop-inner-preserved
loop-inner-preserved c =
    let front = c.loop-inner.items.items in
    let inner = closing c.in-Some.inner in
    let outer = awaited_onto c.pop.new.self.items [] in
    let total = finished as_they_are (c.args.first ∷ []) (closed_at (closing c.args.bracket ∷ []) (map spelled
    c.args.tokens.now)) in
    let w : awaited_onto c.loop-inner.open.items [] ≡ inner ∷ outer =
    rw c.in-Some.ensures.items (awaited_push c.pop.new.self.items c.in-Some.inner []) in
    let so_far : finished as_they_are front (closed_at (inner ∷ outer) (map spelled c.loop-inner.rest.now)) ≡ total =
    ap (λ (l : List (List ℕ)). finished as_they_are front (closed_at l (map spelled c.loop-inner.rest.now)))
    (sym w) ∙ c.loop-inner.invariant.gives in
    record {
      gives = rw c.in_ok-push-3.ensures.items (closed_goes_on total front inner outer
          (awaited_onto c.pass.new.outer.items []) (spelled c.in_ok-next.next.now) c.in_ok-copy.copy
          (map spelled c.loop-inner.rest.now) (map spelled c.in_ok-next.after.now) c.in_ok-next.ensures.gives
          c.in_ok-pass.ensures c.in_ok-copy.ensures so_far);
      places = rw c.in_ok-push-3.ensures.items (λ start first. one_led no_place front c.in_ok-copy.copy start
          (kept c.loop-inner.rest.now) (kept c.in_ok-next.after.now) (c.loop-inner.invariant.places start first)
          (token_led c.in_ok-next.next.now c.in_ok-next.after.now c.loop-inner.rest.now c.in_ok-copy.copy
          c.in_ok-next.ensures.places c.in_ok-copy.ensures));
      shorter = omega (arith, c.in_ok-next.ensures.shorter);
    }

pub returns-clause-gives : goal.returns-clause-gives
returns-clause-gives c =
    let total = finished as_they_are (c.args.first ∷ []) (closed_at (closing c.args.bracket ∷ []) (map spelled
    c.args.tokens.now)) in
    let none : length c.loop-inner.open.items ≡ 0 = omega (
      arith,
      c.loop-inner.open.ok,
      c.in_default.ensures.cases.0,
    ) in
    closed_ends total c.loop-inner.items.items (map spelled c.loop-inner.rest.now) c.loop-inner.open.items
    (nil_from_length c.loop-inner.open.items none) c.loop-inner.invariant.gives

pub loop-inner-smaller : goal.loop-inner-smaller
loop-inner-smaller c =
    c.in_ok-next.ensures.shorter

pub loop-inner-init : goal.loop-inner-init
loop-inner-init c = record {
  gives = rw (
    c.in_ok-push.ensures.items,
    c.new-open.ensures.items,
    c.in_ok-push-2.ensures.items,
    c.new-items.ensures.items,
  ) refl;
  places = rw (c.in_ok-push-2.ensures.items, c.new-items.ensures.items) (λ start led. led);
  shorter = omega arith;
}
