use Rattle.java_tree.specs.KeptPlaces.{kept, each_marks, modifier_marks, some_onto, all_places, ty_places}
use Rattle.std.proofs.Common.{[], ◌∷◌, Some, map}
use Rattle.java_parser_types.proofs.LedMarks.{both_led, from_equal, some_led, to_equal}
use Rattle.java_parser_methods.proofs.try_heads.catch_parameter.Goals as goal

pub returns-clause-places : goal.returns-clause-places
returns-clause-places c =
    rw (c.from-modifiers.ensures, c.from-types.ensures) (from_equal (λ rest. (each_marks modifier_marks
    c.in_ok-modifiers.modifiers.items) ((some_onto (all_places (map ty_places c.in_ok-types.types.items))) (Some
    c.in_ok-name.name.place ∷ rest))) (kept c.args.tokens.now) (kept c.in_ok-rest.rest.now) (kept
    c.in_ok-rest-2.rest.now) c.in_ok-rest.ensures.places (both_led (each_marks modifier_marks
    c.in_ok-modifiers.modifiers.items) (λ rest. (some_onto (all_places (map ty_places c.in_ok-types.types.items)))
    (Some c.in_ok-name.name.place ∷ rest)) (kept c.in_ok-rest.rest.now) (kept c.in_ok-modifiers.rest.now) (kept
    c.in_ok-rest-2.rest.now) c.in_ok-modifiers.ensures.places (both_led (some_onto (all_places (map ty_places
    c.in_ok-types.types.items))) (λ rest. Some c.in_ok-name.name.place ∷ rest) (kept c.in_ok-modifiers.rest.now) (kept
    c.in_ok-types.rest.now) (kept c.in_ok-rest-2.rest.now) (some_led (all_places (map ty_places
    c.in_ok-types.types.items)) (kept c.in_ok-types.rest.now) (kept c.in_ok-modifiers.rest.now)
    c.in_ok-types.ensures.places) (to_equal (λ rest. Some c.in_ok-name.name.place ∷ rest) (kept c.in_ok-types.rest.now)
    (kept c.in_ok-name.rest.now) (kept c.in_ok-rest-2.rest.now) c.in_ok-rest-2.ensures.places (some_led
    (c.in_ok-name.name.place ∷ []) (kept c.in_ok-name.rest.now) (kept c.in_ok-types.rest.now)
    c.in_ok-name.ensures.places)))))
