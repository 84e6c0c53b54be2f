use Rattle.java_tree.specs.KeptPlaces.{kept, expr_places}
use Rattle.java_parser_types.proofs.LedMarks.{from_equal, to_equal}
use Rattle.java_parser_parts.proofs.ends.last_condition.Goals as goal

pub returns-clause-places : goal.returns-clause-places
returns-clause-places c =
    let puts = expr_places c.in_ok-condition.condition.value in
    to_equal puts (kept c.args.tokens.now) (kept c.in_ok-condition.rest.now) (kept c.in_ok-rest-2.rest.now)
    c.in_ok-rest-2.ensures.places (from_equal puts (kept c.args.tokens.now) (kept c.in_ok-rest.rest.now)
    (kept c.in_ok-condition.rest.now) c.in_ok-rest.ensures.places c.in_ok-condition.ensures.places)
