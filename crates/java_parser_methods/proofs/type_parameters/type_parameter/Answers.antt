use Rattle.std.proofs.Common.{◌≡◌, [], ◌∷◌, Some, map, length, sym, subst, refl, arith}
use Rattle.std.proofs.lemmas.List.{length-map}
use Rattle.java_tree.specs.KeptPlaces.{kept, some_onto, all_places, ty_places}
use Rattle.java_tree.specs.View.{annotation_of}
use Rattle.java_parser_grammar.specs.BalancedReading.{annotations_at}
use Rattle.java_parser_grammar.specs.MethodReading.{type_parameter_at}
use Rattle.java_parser_types.proofs.LedMarks.{some_led}
use Rattle.java_parser_types.specs.Tokens.{spelled}
use Rattle.java_parser_methods.proofs.type_parameters.type_parameter.Goals as goal

pub returns-clause-places : goal.returns-clause-places
returns-clause-places c =
    let bounds = all_places (map ty_places c.in_ok-bounds.bounds.items) in
    let place = c.in_ok-name.name.place in
    rw (c.from-annotations.ensures, c.from-bounds.ensures) (λ rest a. c.in_ok-annotations.ensures.places
    (Some place ∷ some_onto bounds rest) (some_led (place ∷ []) (kept c.in_ok-name.rest.now)
    (kept c.in_ok-annotations.rest.now) c.in_ok-name.ensures.places (some_onto bounds rest) (some_led bounds
    (kept c.in_ok-bounds.rest.now) (kept c.in_ok-name.rest.now) c.in_ok-bounds.ensures.places rest a)))

pub returns-clause-gives : goal.returns-clause-gives
unfolding type_parameter_at
returns-clause-gives c =
    let ts = map spelled c.args.tokens.now in
    let read : annotations_at (length ts) ts ≡ Some (
      map annotation_of c.in_ok-annotations.annotations.items,
      map spelled c.in_ok-annotations.rest.now,
    ) =
    subst (λ k. annotations_at k ts ≡ Some (
      map annotation_of c.in_ok-annotations.annotations.items,
      map spelled c.in_ok-annotations.rest.now,
    )) (sym (length-map c.args.tokens.now spelled)) c.in_ok-annotations.ensures.gives in
    rw (
      read,
      c.in_ok-name.ensures.gives,
      c.in_ok-bounds.ensures.gives,
      c.from-annotations.ensures,
      c.from-bounds.ensures,
    ) refl

pub returns-clause-shorter : goal.returns-clause-shorter
returns-clause-shorter c =
    omega (
      arith,
      c.in_ok-annotations.ensures.shorter,
      c.in_ok-name.ensures.shorter,
      c.in_ok-bounds.ensures.shorter,
    )
