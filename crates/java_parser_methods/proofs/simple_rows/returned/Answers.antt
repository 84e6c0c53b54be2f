use Rattle.std.proofs.Common.{option_map, arith, length}
use Rattle.java_parser_methods.proofs.PassedOn.{within_back}
use Rattle.java_tree.specs.KeptPlaces.{kept, stmt_places, expr_places, maybe_puts}
use Rattle.java_parser_types.proofs.LedMarks.{to_equal, led_made}
use Rattle.java_parser_methods.proofs.simple_rows.returned.Goals as goal

pub returns-clause-places : goal.returns-clause-places
returns-clause-places c =
    led_made c.returning.result (λ x. stmt_places x.0.value) (λ x. kept x.1.now) (maybe_puts (option_map (λ e.
    expr_places e.value) c.in_ok-value.value)) (kept c.args.tokens.now) (kept c.in_ok-rest.rest.now) (to_equal
    (maybe_puts (option_map (λ e. expr_places e.value) c.in_ok-value.value)) (kept c.args.tokens.now) (kept
    c.in_ok-value.rest.now) (kept c.in_ok-rest.rest.now) c.in_ok-rest.ensures.places c.in_ok-value.ensures.places)
    c.returning.ensures.places c.returning.ensures.behind

pub returns-clause-shorter : goal.returns-clause-shorter
returns-clause-shorter c =
    within_back c.returning.result (λ x. length x.1.now) _ _
    (omega (arith, c.in_ok-value.ensures.shorter, c.in_ok-rest.ensures.shorter)) c.returning.ensures.shorter
