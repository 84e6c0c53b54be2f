use Rattle.java_tree.specs.KeptPlaces.{kept, expr_places}
use Rattle.java_parser_types.proofs.LedMarks.{to_equal}
use Rattle.java_parser_parts.proofs.fronts.switch_front.Goals as goal

pub returns-clause-places : goal.returns-clause-places
returns-clause-places c =
    to_equal (expr_places c.in_ok-value.value.value) (kept c.args.tokens.now) (kept c.in_ok-value.rest.now)
    (kept c.in_ok-rest.rest.now) c.in_ok-rest.ensures.places c.in_ok-value.ensures.places
