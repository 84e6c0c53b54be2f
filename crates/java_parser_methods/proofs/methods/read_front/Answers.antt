use Rattle.std.proofs.Common.{arith}
use Rattle.java_tree.specs.KeptPlaces.{kept, each_marks, maybe_marks, modifier_marks}
use Rattle.java_tree.specs.MethodPlaces.{type_parameters_marks, result_places}
use Rattle.java_parser_methods.proofs.LedMarks.{front_led}
use Rattle.java_parser_methods.proofs.methods.read_front.Goals as goal

pub returns-clause-places : goal.returns-clause-places
returns-clause-places c =
    rw c.from.ensures (front_led (each_marks modifier_marks c.in_ok-modifiers.modifiers.items)
    (maybe_marks type_parameters_marks c.in_ok-type_parameters.type_parameters) (result_places c.in_ok-given.given)
    (kept c.args.tokens.now) (kept c.in_ok-modifiers.rest.now) (kept c.in_ok-type_parameters.rest.now)
    (kept c.in_ok-given.rest.now) c.in_ok-modifiers.ensures.places c.in_ok-type_parameters.ensures.places
    c.in_ok-given.ensures.places)

pub returns-clause-shorter : goal.returns-clause-shorter
returns-clause-shorter c =
    omega (
      arith,
      c.in_ok-modifiers.ensures.shorter,
      c.in_ok-type_parameters.ensures.shorter,
      c.in_ok-given.ensures.shorter,
    )
