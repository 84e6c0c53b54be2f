use Rattle.std.proofs.Common.{map, sym, ap, subst, ◌∙◌, length, arith}
use Rattle.std.proofs.lemmas.Result.{err_from_is_err_and}
use Rattle.java_tree.specs.KeptPlaces.{kept}
use Rattle.java_parser_grammar.specs.Taking.{◌>>=◌}
use Rattle.java_parser_types.proofs.LedMarks.{read_from}
use Rattle.java_parser_types.proofs.ReadParts.{part_fails}
use Rattle.java_parser_types.specs.ReadAnswer.{Gives}
use Rattle.java_parser_types.specs.Tokens.{spelled}
use Rattle.java_parser_methods.specs.ClassReading.{class_words_at, named_class_at, class_of, class_places}
use Rattle.java_parser_methods.proofs.ClassLoops.{class_is_named}
use Rattle.java_parser_methods.proofs.PassedOn.{within_back}
use Rattle.java_parser_methods.proofs.local_classes.local_class.Goals as goal

pub returns-in_err-words-clause-gives : goal.returns-in_err-words-clause-gives
returns-in_err-words-clause-gives c =
    let ts = map spelled c.args.tokens.now in
    let p = err_from_is_err_and c.from_residual.result c.from_residual.ensures.1 in
    rw (p.1, p.2) (part_fails c.in_err-words.field-0.0 (class_words_at ts) _
    (λ none. class_is_named ts ∙ ap (λ o. o >>= λ w. named_class_at w.0 w.1) none) c.in_err-words.ensures.gives)

pub returns-clause-gives : goal.returns-clause-gives
returns-clause-gives c =
    let ts = map spelled c.args.tokens.now in
    subst (λ o. Gives (λ x. (class_of x.0, map spelled x.1.now)) c.named_class.result o)
    (sym (class_is_named ts ∙ ap (λ o. o >>= λ w. named_class_at w.0 w.1) c.in_ok-words.ensures.gives))
    c.named_class.ensures.gives

pub returns-clause-places : goal.returns-clause-places
returns-clause-places c =
    read_from c.named_class.result (λ x. class_places x.0) (λ x. kept x.1.now) (kept c.args.tokens.now)
    (kept c.in_ok-words.rest.now) c.in_ok-words.ensures.places c.named_class.ensures.places

pub returns-clause-shorter : goal.returns-clause-shorter
returns-clause-shorter c =
    within_back c.named_class.result (λ x. length x.1.now) _ _ (omega (arith, c.in_ok-words.ensures.shorter))
    c.named_class.ensures.shorter
