use Rattle.java_tree.specs.KeptPlaces.{kept, expr_places}
use Rattle.java_parser_methods.specs.TypedReading.{typed_places}
use Rattle.std.proofs.Common.{[], ◌∷◌, Some}
use Rattle.java_parser_types.proofs.LedMarks.{both_led, from_equal, part_led, some_led}
use Rattle.java_parser_methods.proofs.try_heads.named_resource.Goals as goal

pub returns-clause-places : goal.returns-clause-places
returns-clause-places c =
    rw (c.into_inner.ensures, c.into_inner-2.ensures) (part_led (typed_places c.args.front) (λ rest. Some
    c.in_ok-name.name.place ∷ (expr_places c.in_ok-value.value.tree.value) rest) (kept c.args.tokens.now) (kept
    c.in_ok-value.rest.now) (both_led (λ rest. Some c.in_ok-name.name.place ∷ rest) (expr_places
    c.in_ok-value.value.tree.value) (kept c.args.tokens.now) (kept c.in_ok-name.rest.now) (kept c.in_ok-value.rest.now)
    (some_led (c.in_ok-name.name.place ∷ []) (kept c.in_ok-name.rest.now) (kept c.args.tokens.now)
    c.in_ok-name.ensures.places) (from_equal (expr_places c.in_ok-value.value.tree.value) (kept c.in_ok-name.rest.now)
    (kept c.in_ok-rest.rest.now) (kept c.in_ok-value.rest.now) c.in_ok-rest.ensures.places
    c.in_ok-value.ensures.places)))
