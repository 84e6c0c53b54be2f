use Rattle.java_tree.specs.KeptPlaces.{kept, stmt_places, expr_places}
use Rattle.std.proofs.Common.{◌∷◌, [], Some, refl}
use Rattle.java_parser_types.proofs.LedMarks.{both_led, led_made, some_led, to_equal}
use Rattle.java_parser_methods.proofs.simple_rows.thrown.Goals as goal

pub returns-clause-places : goal.returns-clause-places
returns-clause-places c =
    led_made c.throwing.result (λ x. stmt_places x.0.value) (λ x. kept x.1.now) (λ rest. Some c.args.place ∷
    (expr_places c.in_ok-value.value.tree.value) rest) (c.args.place ∷ kept c.args.tokens.now) (kept
    c.in_ok-rest.rest.now) (both_led (λ rest. Some c.args.place ∷ rest) (expr_places c.in_ok-value.value.tree.value)
    (c.args.place ∷ kept c.args.tokens.now) (kept c.args.tokens.now) (kept c.in_ok-rest.rest.now) (some_led
    (c.args.place ∷ []) (kept c.args.tokens.now) (c.args.place ∷ kept c.args.tokens.now) refl) (to_equal (expr_places
    c.in_ok-value.value.tree.value) (kept c.args.tokens.now) (kept c.in_ok-value.rest.now) (kept c.in_ok-rest.rest.now)
    c.in_ok-rest.ensures.places c.in_ok-value.ensures.places)) c.throwing.ensures.places c.throwing.ensures.behind
