use Rattle.std.proofs.Common.{◌≡◌, map, sym, ◌∙◌, [], refl, arith}
use Rattle.std.proofs.lemmas.List.{nil_from_length}
use Rattle.java_parser_parts.proofs.LabelLoops.{alone}
use Rattle.java_parser_types.specs.Tokens.{spelled}
use Rattle.java_parser_methods.specs.ClassReading.{class_words_at}
use Rattle.java_parser_methods.proofs.ClassLoops.{words_go_on, words_end, words_run_out, word_behind, still_unnamed}
use Rattle.java_parser_methods.proofs.local_classes.class_words.Goals as goal

pub loop-first-preserved : goal.loop-first-preserved
loop-first-preserved c =
    let t = spelled c.in-Some.first.now in
    let word = sym c.is_class_word.ensures ∙ c.if-not-is_class_word.false in
    let whole = c.in-Some.ensures.cases.0 in
    record {
      gives = rw c.in_ok-push.ensures.items (words_go_on (class_words_at (map spelled c.args.tokens.now))
          c.loop-first.items.items t c.in_ok-copy.copy (map spelled c.in-Some.after.now) word c.in_ok-copy.ensures
          (rw whole at c.loop-first.invariant.gives));
      unnamed = rw c.in_ok-push.ensures.items (still_unnamed c.loop-first.items.items t c.in_ok-copy.copy word
          c.in_ok-copy.ensures c.loop-first.invariant.unnamed);
      places = word_behind c.in-Some.first.now c.in-Some.after.now word ∙ (rw whole at c.loop-first.invariant.places);
      shorter = omega (arith, rw whole at c.loop-first.invariant.shorter);
    }

pub loop-first-init : goal.loop-first-init
loop-first-init c = record {
  gives = rw c.new-items.ensures.items (alone _);
  unnamed = rw c.new-items.ensures.items (λ more. refl);
  places = refl;
  shorter = omega arith;
}

pub returns-then-not-is_class_word-clause-gives : goal.returns-then-not-is_class_word-clause-gives
returns-then-not-is_class_word-clause-gives c =
    let whole = c.in-Some.ensures.cases.0 in
    rw whole (words_end (class_words_at (map spelled c.args.tokens.now)) c.loop-first.items.items
    (spelled c.in-Some.first.now) (map spelled c.in-Some.after.now)
    (sym c.is_class_word.ensures ∙ c.if-not-is_class_word.true) (rw whole at c.loop-first.invariant.gives))

pub returns-clause-gives : goal.returns-clause-gives
returns-clause-gives c =
    let none : c.loop-first.rest.now ≡ [] = nil_from_length c.loop-first.rest.now c.in_default.ensures.cases in
    rw none (words_run_out (class_words_at (map spelled c.args.tokens.now)) c.loop-first.items.items
    (rw none at c.loop-first.invariant.gives))
