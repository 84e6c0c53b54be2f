use Rattle.std.proofs.Common.{arith}
use Rattle.java_tree.specs.KeptPlaces.{kept, each_marks}
use Rattle.java_tree.specs.MethodPlaces.{type_parameter_marks}
use Rattle.java_parser_types.proofs.LedMarks.{to_equal}
use Rattle.java_parser_methods.proofs.type_parameters.angled_parameters.Goals as goal

pub returns-clause-places : goal.returns-clause-places
returns-clause-places c =
    rw c.from-items.ensures (to_equal (each_marks type_parameter_marks c.in_ok-items.items.items)
    (kept c.args.tokens.now) (kept c.in_ok-items.rest.now) (kept c.in_ok-glued.rest.now)
    c.in_ok-glued.ensures.places (c.in_ok-items.ensures.places (kept c.args.tokens.now)
    c.in_ok-first.ensures.places))

pub returns-clause-shorter : goal.returns-clause-shorter
returns-clause-shorter c =
    omega (
      arith,
      c.in_ok-first.ensures.shorter,
      c.in_ok-items.ensures.shorter,
      c.in_ok-glued.ensures.shorter,
    )
