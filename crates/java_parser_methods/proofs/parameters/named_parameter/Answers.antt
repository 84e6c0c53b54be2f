use Rattle.java_tree.specs.KeptPlaces.{kept}
use Rattle.java_parser_methods.specs.TypedReading.{typed_places}
use Rattle.std.proofs.Common.{[], ◌∷◌, Some}
use Rattle.java_parser_types.proofs.LedMarks.{from_equal, part_led, some_led, to_equal}
use Rattle.java_parser_methods.proofs.parameters.named_parameter.Goals as goal

pub returns-clause-places : goal.returns-clause-places
returns-clause-places c =
    rw c.into_inner.ensures (part_led (typed_places c.args.front) (λ rest. Some c.in_ok-name.name.place ∷ rest) (kept
    c.args.tokens.now) (kept c.brackets-arrays.result.1.now) (to_equal (λ rest. Some c.in_ok-name.name.place ∷ rest)
    (kept c.args.tokens.now) (kept c.in_ok-name.rest.now) (kept c.brackets-arrays.result.1.now)
    c.brackets-arrays.ensures.places (from_equal (λ rest. Some c.in_ok-name.name.place ∷ rest) (kept c.args.tokens.now)
    (kept c.any_number-any_number.result.1.now) (kept c.in_ok-name.rest.now) c.any_number-any_number.ensures.places
    (some_led (c.in_ok-name.name.place ∷ []) (kept c.in_ok-name.rest.now) (kept c.any_number-any_number.result.1.now)
    c.in_ok-name.ensures.places))))
