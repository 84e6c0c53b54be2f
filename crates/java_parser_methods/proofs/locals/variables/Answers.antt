use Rattle.java_tree.specs.KeptPlaces.{kept, locals_places, each_puts, variable_places}
use Rattle.java_parser_types.proofs.LedMarks.{part_led, led_made_through}
use Rattle.java_parser_methods.specs.TypedReading.{typed_places}
use Rattle.std.proofs.Common.{map}
use Rattle.java_parser_methods.proofs.locals.variables.Goals as goal

pub returns-clause-places : goal.returns-clause-places
returns-clause-places c =
    led_made_through c.declaration.result (λ x. locals_places x.0.value) (λ x. kept x.1.now) (typed_places
    c.args.front) (λ rest. (typed_places c.args.front) ((each_puts (map variable_places c.in_ok-items.items.items))
    rest)) (kept c.args.tokens.now) (kept c.in_ok-items.rest.now) (part_led (typed_places c.args.front) (each_puts (map
    variable_places c.in_ok-items.items.items)) (kept c.args.tokens.now) (kept c.in_ok-items.rest.now)
    (c.in_ok-items.ensures.places (kept c.args.tokens.now) c.in_ok-first.ensures.places)) c.declaration.ensures.places
    c.declaration.ensures.behind
