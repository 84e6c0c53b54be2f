use Rattle.java_tree.specs.KeptPlaces.{kept, expr_places, some_onto, ty_places}
use Rattle.java_parser_types.proofs.LastCalls.{below}
use Rattle.java_parser_types.proofs.LedMarks.{led_on, some_led}
use Rattle.java_parser_expressions.proofs.references.typed_name.Goals as goal

pub returns-clause-places : goal.returns-clause-places
returns-clause-places c =
    let kind = ty_places c.in_ok-kind.kind.tree in
    let here = kept c.args.tokens.now in
    let at = kept c.in_ok-kind.rest.now in
    led_on c.type_reference.result (λ x. expr_places x.0.tree.value) (λ x. kept x.1.now) (some_onto kind) here at
    (some_led kind at here c.in_ok-kind.ensures.places) c.type_reference.ensures.places

pub returns-clause-shorter : goal.returns-clause-shorter
returns-clause-shorter c =
    below _ c.type_reference.result _ _ c.type_reference.ensures.shorter c.in_ok-kind.ensures.shorter
