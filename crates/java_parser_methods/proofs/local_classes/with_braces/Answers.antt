use Rattle.std.proofs.Common.{refl}
use Rattle.java_parser_methods.proofs.local_classes.with_braces.Goals as goal

pub returns-clause-gives : goal.returns-clause-gives
returns-clause-gives c = rw (c.in_ok-body.ensures.gives, c.in_ok-append.ensures.items) refl

pub returns-clause-places : goal.returns-clause-places
returns-clause-places c =
    record { others = c.in_ok-body.body.items; are = c.in_ok-append.ensures.items; led = c.in_ok-body.ensures.places }
