use Rattle.std.proofs.Common.{◌∙◌, ◌≡◌, ◌++◌, ◌∷◌, [], codes, length, map, arith, ◌-◌, refl, append_assoc}
use Rattle.std.proofs.lemmas.Result.{err_from_is_err_and}
use Rattle.std.proofs.lemmas.List.{map_push}
use Rattle.java_tree.specs.KeptPlaces.{kept, ty_places}
use Rattle.java_parser_types.proofs.PutPlaces.{one_more}
use Rattle.java_tree.specs.View.{ty_of}
use Rattle.java_parser_grammar.specs.StatementReading.{named_at}
use Rattle.java_parser_grammar.specs.TypeReading.{behind_each}
use Rattle.java_parser_grammar.specs.JavaReaders.{method_readers}
use Rattle.java_parser_types.specs.Tokens.{spelled}
use Rattle.java_parser_types.specs.Finishing.{finished}
use Rattle.java_parser_types.specs.Endings.{as_they_are}
use Rattle.java_parser_types.proofs.SignLoops.{sign_goes_on, sign_fails, sign_ends, sign_runs_out}
use Rattle.java_parser_methods.proofs.try_heads.more_types.Goals as goal
use Rattle.java_parser_methods.proofs.try_heads.more_types.Goals.{else-loop-test, then-loop-test+in_default}

pub returns-in_err-next-clause-gives : goal.returns-in_err-next-clause-gives
returns-in_err-next-clause-gives c =
    let bar = codes "|" in
    let read = named_at method_readers c.args.limit in
    let total = finished as_they_are (ty_of c.args.first ∷ [])
    (behind_each bar read (length (map spelled c.args.tokens.now)) (map spelled c.args.tokens.now)) in
    let p = err_from_is_err_and c.from_residual-in_err-next.result c.from_residual-in_err-next.ensures.1 in
    rw (p.1, p.2) (sign_fails bar read as_they_are total c.args.tokens.now c.loop.counter
    (map ty_of c.loop.items.items) c.in_err-next.field-0.0 (map spelled c.loop.rest.now)
    (map spelled c.in-Some.after.now) c.loop-test.true c.in-Some.ensures.gives c.in_err-next.ensures.gives
    c.loop.invariant.gives)

pub loop-preserved : goal.loop-preserved
loop-preserved c =
    let n = c.in_ok-next.next in
    let e : map ty_of c.push-in-loop.new.self.items ≡ map ty_of c.loop.items.items ++ ty_of n ∷ [] =
    rw c.in_ok-push-2.ensures.items (map_push _ c.loop.items.items n) in
    let bar = codes "|" in
    let read = named_at method_readers c.args.limit in
    let total = finished as_they_are (ty_of c.args.first ∷ [])
    (behind_each bar read (length (map spelled c.args.tokens.now)) (map spelled c.args.tokens.now)) in
    record {
      gives = rw e (sign_goes_on bar read as_they_are total c.args.tokens.now c.loop.counter
          (map ty_of c.loop.items.items) (ty_of n) (map spelled c.loop.rest.now) (map spelled c.in-Some.after.now)
          (map spelled c.in_ok-next.after.now) c.loop-test.true c.in-Some.ensures.gives c.in_ok-next.ensures.gives
          c.loop.invariant.gives);
      places = rw c.in_ok-push-2.ensures.items (one_more ty_places c.loop.items.items n (kept c.loop.rest.now)
          (kept c.in_ok-next.after.now) _ (c.in_ok-next.ensures.places ∙ c.in-Some.ensures.places)
          c.loop.invariant.places);
      shorter = omega (arith, c.in-Some.ensures.shorter, c.in_ok-next.ensures.shorter);
    }

pub returns-clause-gives : goal.returns-clause-gives
returns-clause-gives c =
    let bar = codes "|" in
    let read = named_at method_readers c.args.limit in
    let total = finished as_they_are (ty_of c.args.first ∷ [])
    (behind_each bar read (length (map spelled c.args.tokens.now)) (map spelled c.args.tokens.now)) in
    elim c.loop-test.branch [
      | else-loop-test w ↦ sign_runs_out bar read as_they_are total c.args.tokens.now c.loop.counter
          (map ty_of c.loop.items.items) (map spelled c.loop.rest.now) w.loop-test.false c.loop.invariant.gives
      | then-loop-test+in_default w ↦ sign_ends bar read as_they_are total c.args.tokens.now c.loop.counter
          (map ty_of c.loop.items.items) (map spelled c.loop.rest.now) w.loop-test.true w.in_default.ensures.gives
          c.loop.invariant.gives
    ]

pub loop-init : goal.loop-init
loop-init c =
    let none : length (map spelled c.args.tokens.now) - 0 ≡ length (map spelled c.args.tokens.now) = omega arith in
    record {
      gives = rw (c.in_ok-push.ensures.items, c.new-items.ensures.items, none) refl;
      places = rw (c.in_ok-push.ensures.items, c.new-items.ensures.items) (append_assoc (ty_places c.args.first) []
          (kept c.args.tokens.now));
      shorter = omega arith;
    }
