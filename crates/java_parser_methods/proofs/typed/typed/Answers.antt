use Rattle.std.proofs.Common.{arith}
use Rattle.java_tree.specs.KeptPlaces.{kept, some_onto, ty_places}
use Rattle.java_parser_types.proofs.LedMarks.{some_led}
use Rattle.java_parser_methods.proofs.typed.typed.Goals as goal

pub returns-clause-places : goal.returns-clause-places
returns-clause-places c =
    let kind = ty_places c.in_ok-kind.kind.value in
    rw c.from-modifiers.ensures (λ rest a. c.in_ok-modifiers.ensures.places (some_onto kind rest) (some_led kind
    (kept c.in_ok-kind.rest.now) (kept c.in_ok-modifiers.rest.now) c.in_ok-kind.ensures.places rest a))

pub returns-clause-shorter : goal.returns-clause-shorter
returns-clause-shorter c =
    omega (arith, c.in_ok-modifiers.ensures.shorter, c.in_ok-kind.ensures.shorter)
