use Rattle.java_tree.specs.KeptPlaces.{kept, stmt_places, expr_places}
use Rattle.java_parser_types.proofs.LedMarks.{led_made_through, part_led}
use Rattle.java_parser_methods.proofs.ends.do_end.Goals as goal

pub returns-clause-places : goal.returns-clause-places
returns-clause-places c =
    led_made_through c.repeated_after.result (λ x. stmt_places x.0.value) (λ x. kept x.1.now) (stmt_places
    c.args.body.value) (λ rest. (stmt_places c.args.body.value) ((expr_places c.in_ok-condition.condition.value) rest))
    (kept c.args.tokens.now) (kept c.in_ok-condition.rest.now) (part_led (stmt_places c.args.body.value) (expr_places
    c.in_ok-condition.condition.value) (kept c.args.tokens.now) (kept c.in_ok-condition.rest.now)
    c.in_ok-condition.ensures.places) c.repeated_after.ensures.places c.repeated_after.ensures.behind
