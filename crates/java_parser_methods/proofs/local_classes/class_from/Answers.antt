use Rattle.std.proofs.Common.{◌≡◌, true, false, List, map, [], codes, sym, ap, ◌∙◌, refl, arith}
use Rattle.std.proofs.lemmas.List.{nil_from_length}
use Rattle.std.proofs.lemmas.Result.{err_from_is_err_and}
use Rattle.java_tree.specs.KeptPlaces.{kept}
use Rattle.java_tree.specs.Brackets.{are_none}
use Rattle.java_parser_grammar.specs.BalancedReading.{between_at}
use Rattle.java_parser_grammar.specs.StatementReading.{class_from}
use Rattle.java_parser_lookahead.specs.declared.brackets.Bracket.{Bracket}
use Rattle.java_parser_lookahead.specs.AwaitedBrackets.{awaited_onto}
use Rattle.java_parser_types.specs.Finishing.{finished}
use Rattle.java_parser_types.specs.Endings.{as_they_are}
use Rattle.java_parser_types.specs.Tokens.{spelled}
use Rattle.java_parser_types.proofs.LedMarks.{token_led}
use Rattle.java_parser_types.proofs.ReadLoops.{ends_give}
use Rattle.java_parser_methods.proofs.ClassLoops.{class_goes_on, class_fails, class_ends, class_nested, class_lacks}
use Rattle.java_parser_methods.proofs.ClassLoops.{appends_none, appends_one, appends_through}
use Rattle.java_parser_methods.proofs.local_classes.class_from.Goals as goal

pub loop-first-preserved : goal.loop-first-preserved
loop-first-preserved c =
    let at = c.loop-first in
    let t = c.in-Some.first.now in
    let whole = c.in-Some.ensures.cases.0 in
    let total = finished as_they_are c.args.items.items (class_from [] (map spelled c.args.tokens.now)) in
    record {
      gives = rw c.in_ok-push.ensures.items (class_goes_on total at.items.items (awaited_onto at.open.items [])
          (awaited_onto c.pass_in_head.new.open.items []) (spelled t) c.in_ok-copy.copy
          (map spelled c.in-Some.after.now)
          (sym c.is_sign.ensures ∙ c.if-is_sign.false) c.in_ok-pass_in_head.ensures c.in_ok-copy.ensures
          (rw whole at at.invariant.gives));
      places = rw c.in_ok-push.ensures.items (appends_one c.args.items.items at.items.items c.in_ok-copy.copy
          (kept c.args.tokens.now) (kept at.rest.now) (kept c.in-Some.after.now) at.invariant.places
          (token_led t c.in-Some.after.now at.rest.now c.in_ok-copy.copy (sym whole) c.in_ok-copy.ensures));
      shorter = omega (arith, rw whole at at.invariant.shorter);
    }

pub loop-first-init : goal.loop-first-init
loop-first-init c = record {
  gives = rw c.new-open.ensures.items refl;
  places = appends_none c.args.items.items (kept c.args.tokens.now);
  shorter = omega arith;
}

pub returns-then-not-is_outside-clause-gives : goal.returns-then-not-is_outside-clause-gives
returns-then-not-is_outside-clause-gives c =
    let at = c.loop-first in
    let whole = c.in-Some.ensures.cases.0 in
    let total = finished as_they_are c.args.items.items (class_from [] (map spelled c.args.tokens.now)) in
    let some : are_none (awaited_onto at.open.items []) ≡ false =
    ap (λ (bs : List Bracket). are_none (awaited_onto bs [])) (sym c.as_slice.ensures.value)
    ∙ (sym c.is_outside.ensures ∙ c.if-not-is_outside.true) in
    class_nested total at.items.items (awaited_onto at.open.items []) (spelled c.in-Some.first.now)
    (map spelled c.in-Some.after.now) (sym c.is_sign.ensures ∙ c.if-is_sign.true) some
    (rw whole at at.invariant.gives)

pub returns-then-is_sign-clause-gives : goal.returns-then-is_sign-clause-gives
returns-then-is_sign-clause-gives c =
    let at = c.loop-first in
    let whole = c.in-Some.ensures.cases.0 in
    let total = finished as_they_are c.args.items.items (class_from [] (map spelled c.args.tokens.now)) in
    let none : are_none (awaited_onto at.open.items []) ≡ true =
    ap (λ (bs : List Bracket). are_none (awaited_onto bs [])) (sym c.as_slice.ensures.value)
    ∙ (sym c.is_outside.ensures ∙ c.if-not-is_outside.false) in
    let stop : total ≡ finished as_they_are at.items.items (between_at (codes "}") (map spelled at.rest.now)) =
    rw whole (class_ends total at.items.items (awaited_onto at.open.items []) (spelled c.in-Some.first.now)
    (map spelled c.in-Some.after.now) (sym c.is_sign.ensures ∙ c.if-is_sign.true) none
    (rw whole at at.invariant.gives)) in
    ends_give _ c.with_braces.result total _ stop c.with_braces.ensures.gives

pub returns-then-is_sign-clause-places : goal.returns-then-is_sign-clause-places
returns-then-is_sign-clause-places c =
    appends_through c.with_braces.result (λ x. x.0.items) (λ x. kept x.1.now) c.args.items.items
    c.loop-first.items.items (kept c.args.tokens.now) (kept c.loop-first.rest.now) c.loop-first.invariant.places
    c.with_braces.ensures.places

pub returns-in_err-pass_in_head-clause-gives : goal.returns-in_err-pass_in_head-clause-gives
returns-in_err-pass_in_head-clause-gives c =
    let at = c.loop-first in
    let whole = c.in-Some.ensures.cases.0 in
    let total = finished as_they_are c.args.items.items (class_from [] (map spelled c.args.tokens.now)) in
    let p = err_from_is_err_and c.from_residual.result c.from_residual.ensures.1 in
    rw (p.1, p.2) (class_fails total at.items.items (awaited_onto at.open.items []) c.in_err-pass_in_head.field-0.0
    (spelled c.in-Some.first.now) (map spelled c.in-Some.after.now) (sym c.is_sign.ensures ∙ c.if-is_sign.false)
    c.in_err-pass_in_head.ensures (rw whole at at.invariant.gives))

pub returns-clause-gives : goal.returns-clause-gives
returns-clause-gives c =
    let at = c.loop-first in
    let none : at.rest.now ≡ [] = nil_from_length at.rest.now c.in_default.ensures.cases in
    class_lacks (finished as_they_are c.args.items.items (class_from [] (map spelled c.args.tokens.now)))
    at.items.items (awaited_onto at.open.items []) (rw none at at.invariant.gives)
