use Rattle.std.proofs.Common.{map, arith, length, sym, ◌∙◌, refl}
use Rattle.java_parser_methods.proofs.PassedOn.{within_back}
use Rattle.java_tree.specs.KeptPlaces.{kept, each_puts, expr_places}
use Rattle.java_parser_types.proofs.LedMarks.{led_on}
use Rattle.java_parser_methods.proofs.heads.runs_until.Goals as goal

pub returns-clause-places : goal.returns-clause-places
returns-clause-places c =
    led_on c.more_runs.result (λ x. each_puts (map expr_places x.0.items)) (λ x. kept x.1.now) (expr_places
    c.in_ok-first.first.value) (kept c.args.tokens.now) (kept c.in_ok-first.rest.now) c.in_ok-first.ensures.places
    c.more_runs.ensures.places

pub returns-clause-shorter : goal.returns-clause-shorter
returns-clause-shorter c =
    within_back c.more_runs.result (λ x. length x.1.now) _ _
    (omega (arith, c.in_ok-first.ensures.shorter)) c.more_runs.ensures.shorter

pub more_runs-requires-clause-few : goal.more_runs-requires-clause-few
more_runs-requires-clause-few c =
    omega (arith, c.requires.few, c.in_ok-first.ensures.shorter)

pub returns-then-begins_with-clause-gives : goal.returns-then-begins_with-clause-gives
returns-then-begins_with-clause-gives c =
    rw (sym c.begins_with.ensures ∙ c.if-begins_with.true, c.new.ensures.items) refl

pub returns-clause-gives : goal.returns-clause-gives
returns-clause-gives c =
    rw (sym c.begins_with.ensures ∙ c.if-begins_with.false, c.in_ok-first.ensures.gives) c.more_runs.ensures.gives
