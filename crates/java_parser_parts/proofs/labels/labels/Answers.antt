use Rattle.std.proofs.Common.{◌∙◌, ◌≡◌, ◌++◌, ◌∷◌, [], length, map, arith, ◌-◌, sym}
use Rattle.std.proofs.lemmas.Result.{err_from_is_err_and}
use Rattle.std.proofs.lemmas.List.{map_push}
use Rattle.java_tree.specs.KeptPlaces.{kept, label_places}
use Rattle.java_parser_types.proofs.PutPlaces.{one_put}
use Rattle.java_tree.specs.View.{label_of}
use Rattle.java_parser_grammar.specs.StatementReading.{labels_at}
use Rattle.java_parser_grammar.specs.JavaReaders.{method_readers}
use Rattle.java_parser_types.specs.Tokens.{spelled}
use Rattle.java_parser_parts.proofs.LabelLoops.{label_goes_on, label_fails, labels_end, labels_run_out}
use Rattle.java_parser_parts.proofs.labels.labels.Goals as goal
use Rattle.java_parser_parts.proofs.labels.labels.Goals.{else-loop-test, then-loop-test+then-not-begins_label}
use Rattle.java_parser_parts.proofs.LabelLoops.{alone}

pub returns-in_err-next-clause-gives : goal.returns-in_err-next-clause-gives
returns-in_err-next-clause-gives c =
    let total = labels_at method_readers c.args.limit (length (map spelled c.args.tokens.now))
    (map spelled c.args.tokens.now) in
    let p = err_from_is_err_and c.from_residual.result c.from_residual.ensures.1 in
    rw (p.1, p.2) (label_fails method_readers c.args.limit total c.args.tokens.now c.loop.counter
    (map label_of c.loop.items.items) c.in_err-next.field-0.0 (map spelled c.loop.rest.now) c.loop-test.true
    (sym c.begins_label.ensures ∙ c.if-not-begins_label.false) c.in_err-next.ensures.gives c.loop.invariant.gives)

pub loop-preserved : goal.loop-preserved
loop-preserved c =
    let n = c.in_ok-next.next in
    let e : map label_of c.push.new.self.items ≡ map label_of c.loop.items.items ++ label_of n ∷ [] =
    rw c.in_ok-push.ensures.items (map_push _ c.loop.items.items n) in
    let total = labels_at method_readers c.args.limit (length (map spelled c.args.tokens.now))
    (map spelled c.args.tokens.now) in
    record {
      gives = rw e (label_goes_on method_readers c.args.limit total c.args.tokens.now c.loop.counter
          (map label_of c.loop.items.items) (label_of n) (map spelled c.loop.rest.now)
          (map spelled c.in_ok-next.after.now) c.loop-test.true
          (sym c.begins_label.ensures ∙ c.if-not-begins_label.false) c.in_ok-next.ensures.gives
          c.loop.invariant.gives);
      places = rw c.in_ok-push.ensures.items (one_put label_places c.loop.items.items n (kept c.args.tokens.now)
          (kept c.loop.rest.now) (kept c.in_ok-next.after.now) c.in_ok-next.ensures.places c.loop.invariant.places);
      shorter = omega (arith, c.in_ok-next.ensures.shorter, c.loop.invariant.shorter);
    }

pub loop-init : goal.loop-init
loop-init c =
    let none : length (map spelled c.args.tokens.now) - 0 ≡ length (map spelled c.args.tokens.now) = omega arith in
    record {
      gives = rw (c.new-items.ensures.items, none) (alone _);
      places = rw c.new-items.ensures.items (λ rest led. led);
      shorter = omega arith;
    }

pub returns-clause-gives : goal.returns-clause-gives
returns-clause-gives c =
    let total = labels_at method_readers c.args.limit (length (map spelled c.args.tokens.now))
    (map spelled c.args.tokens.now) in
    elim c.loop-test.branch [
      | else-loop-test w ↦ labels_run_out method_readers c.args.limit total c.args.tokens.now c.loop.counter
          (map label_of c.loop.items.items) (map spelled c.loop.rest.now) w.loop-test.false c.loop.invariant.gives
      | then-loop-test+then-not-begins_label w ↦ labels_end method_readers c.args.limit total c.args.tokens.now
          c.loop.counter (map label_of c.loop.items.items) (map spelled c.loop.rest.now) w.loop-test.true
          (sym w.begins_label.ensures ∙ w.if-not-begins_label.true) c.loop.invariant.gives
    ]
