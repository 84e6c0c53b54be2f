use Rattle.java_tree.specs.KeptPlaces.{kept, stmt_places, expr_places, maybe_puts}
use Rattle.std.proofs.Common.{option_map}
use Rattle.java_parser_types.proofs.LedMarks.{both_led, led_made, to_equal}
use Rattle.java_parser_methods.proofs.simple_rows.asserted.Goals as goal

pub returns-clause-places : goal.returns-clause-places
returns-clause-places c =
    led_made c.asserting.result (λ x. stmt_places x.0.value) (λ x. kept x.1.now) (λ rest. (expr_places
    c.in_ok-condition.condition.tree.value) ((maybe_puts (option_map (λ e. expr_places e.value) c.in_ok-detail.detail))
    rest)) (kept c.args.tokens.now) (kept c.in_ok-rest.rest.now) (both_led (expr_places
    c.in_ok-condition.condition.tree.value) (maybe_puts (option_map (λ e. expr_places e.value) c.in_ok-detail.detail))
    (kept c.args.tokens.now) (kept c.in_ok-condition.rest.now) (kept c.in_ok-rest.rest.now)
    c.in_ok-condition.ensures.places (to_equal (maybe_puts (option_map (λ e. expr_places e.value)
    c.in_ok-detail.detail)) (kept c.in_ok-condition.rest.now) (kept c.in_ok-detail.rest.now) (kept
    c.in_ok-rest.rest.now) c.in_ok-rest.ensures.places c.in_ok-detail.ensures.places)) c.asserting.ensures.places
    c.asserting.ensures.behind
