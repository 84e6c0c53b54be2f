use Rattle.std.proofs.Common.{arith, length}
use Rattle.java_parser_methods.proofs.PassedOn.{within_back}
use Rattle.java_tree.specs.KeptPlaces.{kept}
use Rattle.java_parser_methods.specs.HeadView.{head_places}
use Rattle.java_parser_types.proofs.LedMarks.{led_on}
use Rattle.java_parser_methods.specs.TypedReading.{typed_places}
use Rattle.java_parser_methods.proofs.heads.typed_head.Goals as goal

pub returns-clause-places : goal.returns-clause-places
returns-clause-places c =
    led_on c.declared.result (λ x. head_places x.0) (λ x. kept x.1.now) (typed_places c.in_ok-front.front) (kept
    c.args.tokens.now) (kept c.in_ok-front.rest.now) c.in_ok-front.ensures.places c.declared.ensures.places

pub returns-clause-shorter : goal.returns-clause-shorter
returns-clause-shorter c =
    within_back c.declared.result (λ x. length x.1.now) _ _
    (omega (arith, c.in_ok-front.ensures.shorter)) c.declared.ensures.shorter
