use Rattle.std.proofs.Common.{arith, length, map, subst, sym, ap, ◌∙◌}
use Rattle.java_parser_methods.proofs.PassedOn.{within_back, start_kept}
use Rattle.java_tree.specs.KeptPlaces.{kept, Marks, AreAt, start_places, each_puts, expr_places}
use Rattle.java_parser_methods.specs.HeadView.{head_places}
use Rattle.java_parser_types.proofs.LedMarks.{led_on}
use Rattle.java_parser_methods.proofs.heads.untyped.Goals as goal

pub returns-clause-shorter : goal.returns-clause-shorter
returns-clause-shorter c =
    within_back c.counted.result (λ x. length x.1.now) _ _
    (omega (arith, c.in_ok-runs.ensures.shorter)) c.counted.ensures.shorter

pub counted-requires-clause-few : goal.counted-requires-clause-few
counted-requires-clause-few c =
    omega (arith, c.requires.few, c.in_ok-runs.ensures.shorter)

pub returns-clause-places : goal.returns-clause-places
returns-clause-places c =
    led_on c.counted.result (λ x. head_places x.0) (λ x. kept x.1.now) (start_places c.in_ok-start.start.value) (kept
    c.args.tokens.now) (kept c.in_ok-runs.rest.now) (λ rest a. subst (λ (ms : Marks). AreAt ms (kept
    c.args.tokens.now)) (sym (start_kept _ c.in_ok-start.start.value rest c.in_ok-start.ensures ∙ ap (λ es. each_puts
    (map expr_places es) rest) c.from.ensures)) (c.in_ok-runs.ensures.places rest a)) c.counted.ensures.places
