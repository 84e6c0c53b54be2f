use Rattle.std.proofs.Common.{map, refl, sym, arith}
use Rattle.java_parser_methods.specs.SignatureReading.{signature_at}
use Rattle.java_tree.specs.KeptPlaces.{kept, all_places, ty_places}
use Rattle.java_tree.specs.KeptPlaces.{each_marks}
use Rattle.java_tree.specs.MethodPlaces.{parameter_marks}
use Rattle.java_parser_methods.proofs.LedMarks.{signature_led}
use Rattle.java_parser_methods.proofs.signatures.read_signature.Goals as goal

pub returns-clause-places : goal.returns-clause-places
returns-clause-places c =
    signature_led (each_marks parameter_marks c.in_ok-parameters.parameters.items) c.in_ok-name.name.place
    (all_places (map ty_places c.in_ok-throws.throws.items)) (kept c.args.tokens.now) (kept c.in_ok-name.rest.now)
    (kept c.in_ok-parameters.rest.now) (kept c.arrays_behind-arrays.result.1.now) (kept c.in_ok-throws.rest.now)
    c.in_ok-name.ensures.places c.in_ok-parameters.ensures.places c.arrays_behind-arrays.ensures.places
    c.in_ok-throws.ensures.places

pub returns-clause-gives : goal.returns-clause-gives
unfolding signature_at
returns-clause-gives c =
    rw (
      c.in_ok-name.ensures.gives,
      c.in_ok-parameters.ensures.gives,
      sym c.arrays_behind-arrays.ensures.gives,
      c.in_ok-throws.ensures.gives,
    ) refl

pub returns-clause-shorter : goal.returns-clause-shorter
returns-clause-shorter c =
    omega (
      arith,
      c.in_ok-name.ensures.shorter,
      c.in_ok-parameters.ensures.shorter,
      c.arrays_behind-arrays.ensures.shorter,
      c.in_ok-throws.ensures.shorter,
    )
