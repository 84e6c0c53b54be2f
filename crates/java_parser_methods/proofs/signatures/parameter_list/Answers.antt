use Rattle.std.proofs.Common.{refl, arith}
use Rattle.java_parser_methods.specs.SignatureReading.{parameter_list_at}
use Rattle.java_tree.specs.KeptPlaces.{kept}
use Rattle.java_tree.specs.KeptPlaces.{each_marks}
use Rattle.java_tree.specs.MethodPlaces.{parameter_marks}
use Rattle.java_parser_methods.proofs.LedMarks.{enclosed_led}
use Rattle.java_parser_methods.proofs.signatures.parameter_list.Goals as goal

pub returns-clause-places : goal.returns-clause-places
returns-clause-places c =
    enclosed_led (each_marks parameter_marks c.in_ok-parameters.parameters.items) (kept c.args.tokens.now)
    (kept c.in_ok-rest.rest.now) (kept c.in_ok-parameters.rest.now) (kept c.in_ok-rest-2.rest.now)
    c.in_ok-rest.ensures.places c.in_ok-parameters.ensures.places c.in_ok-rest-2.ensures.places

pub returns-clause-gives : goal.returns-clause-gives
unfolding parameter_list_at
returns-clause-gives c =
    rw (c.in_ok-rest.ensures.gives, c.in_ok-parameters.ensures.gives, c.in_ok-rest-2.ensures.gives) refl

pub returns-clause-shorter : goal.returns-clause-shorter
returns-clause-shorter c =
    omega (arith, c.in_ok-rest.ensures.shorter, c.in_ok-parameters.ensures.shorter, c.in_ok-rest-2.ensures.shorter)
