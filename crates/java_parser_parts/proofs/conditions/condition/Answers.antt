use Rattle.std.proofs.Common.{refl, arith}
use Rattle.java_tree.specs.KeptPlaces.{kept, expr_places}
use Rattle.java_parser_grammar.specs.StatementReading.{condition_at}
use Rattle.java_parser_types.proofs.LedMarks.{from_equal, to_equal}
use Rattle.java_parser_parts.proofs.conditions.condition.Goals as goal

pub returns-clause-gives : goal.returns-clause-gives
unfolding condition_at
returns-clause-gives c =
    rw (c.in_ok-rest.ensures.gives, c.in_ok-condition.ensures.gives, c.in_ok-rest-2.ensures.gives) refl

pub returns-clause-places : goal.returns-clause-places
returns-clause-places c =
    let puts = expr_places c.in_ok-condition.condition.tree.value in
    to_equal puts (kept c.args.tokens.now) (kept c.in_ok-condition.rest.now) (kept c.in_ok-rest-2.rest.now)
    c.in_ok-rest-2.ensures.places (from_equal puts (kept c.args.tokens.now) (kept c.in_ok-rest.rest.now)
    (kept c.in_ok-condition.rest.now) c.in_ok-rest.ensures.places c.in_ok-condition.ensures.places)

pub returns-clause-shorter : goal.returns-clause-shorter
returns-clause-shorter c =
    omega (arith, c.in_ok-rest.ensures.shorter, c.in_ok-condition.ensures.shorter, c.in_ok-rest-2.ensures.shorter)

pub read_expression-requires-clause-few : goal.read_expression-requires-clause-few
read_expression-requires-clause-few c =
    omega (arith, c.requires.few, c.in_ok-rest.ensures.shorter)
