use Rattle.std.proofs.Common.{map, sym, ap, subst, ◌∙◌, length, arith}
use Rattle.std.proofs.lemmas.Result.{err_from_is_err_and}
use Rattle.java_tree.specs.KeptPlaces.{kept, resource_places}
use Rattle.java_tree.specs.View.{resource_of}
use Rattle.java_parser_grammar.specs.JavaReaders.{method_readers}
use Rattle.java_parser_grammar.specs.Taking.{◌>>=◌}
use Rattle.java_parser_types.proofs.LedMarks.{led_on}
use Rattle.java_parser_types.proofs.ReadParts.{part_fails}
use Rattle.java_parser_types.specs.ReadAnswer.{Gives}
use Rattle.java_parser_types.specs.Tokens.{spelled}
use Rattle.java_parser_methods.specs.RowReading.{resource_from}
use Rattle.java_parser_methods.specs.TypedReading.{typed_at, typed_places}
use Rattle.java_parser_methods.proofs.ParameterParts.{resource_is_typed}
use Rattle.java_parser_methods.proofs.PassedOn.{within_back}
use Rattle.java_parser_methods.proofs.try_heads.resource.Goals as goal

pub returns-in_err-front-clause-gives : goal.returns-in_err-front-clause-gives
returns-in_err-front-clause-gives c =
    let ts = map spelled c.args.tokens.now in
    let p = err_from_is_err_and c.from_residual.result c.from_residual.ensures.1 in
    rw (p.1, p.2) (part_fails c.in_err-front.field-0.0 (typed_at method_readers c.args.limit ts) _
    (λ none. resource_is_typed c.args.limit ts
    ∙ ap (λ o. o >>= λ front. resource_from method_readers c.args.limit front.0 front.1) none)
    c.in_err-front.ensures.gives)

pub returns-clause-gives : goal.returns-clause-gives
returns-clause-gives c =
    let ts = map spelled c.args.tokens.now in
    subst (λ o. Gives (λ x. (resource_of x.0, map spelled x.1.now)) c.named_resource.result o)
    (sym (resource_is_typed c.args.limit ts
    ∙ ap (λ o. o >>= λ front. resource_from method_readers c.args.limit front.0 front.1)
    c.in_ok-front.ensures.gives)) c.named_resource.ensures.gives

pub returns-clause-places : goal.returns-clause-places
returns-clause-places c =
    led_on c.named_resource.result (λ x. resource_places x.0) (λ x. kept x.1.now) (typed_places c.in_ok-front.front)
    (kept c.args.tokens.now) (kept c.in_ok-front.rest.now) c.in_ok-front.ensures.places
    c.named_resource.ensures.places

pub returns-clause-shorter : goal.returns-clause-shorter
returns-clause-shorter c =
    within_back c.named_resource.result (λ x. length x.1.now) _ _ (omega (arith, c.in_ok-front.ensures.shorter))
    c.named_resource.ensures.shorter
