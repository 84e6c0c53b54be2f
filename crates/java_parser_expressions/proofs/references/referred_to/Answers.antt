use Rattle.std.proofs.Common.{map}
use Rattle.java_tree.specs.KeptPlaces.{kept, all_places, name_or_new, some_onto, ty_places}
use Rattle.java_parser_types.proofs.LedMarks.{both_led, some_led}
use Rattle.java_parser_expressions.proofs.references.referred_to.Goals as goal

pub returns-clause-places : goal.returns-clause-places
returns-clause-places c =
    let types = all_places (map ty_places c.in_ok-types.types.trees) in
    let here = kept c.args.tokens.now in
    let at = kept c.in_ok-types.rest.now in
    both_led (some_onto types) (name_or_new c.in_ok-name.name) here at (kept c.in_ok-name.rest.now)
    (some_led types at here c.in_ok-types.ensures.places) c.in_ok-name.ensures.places
