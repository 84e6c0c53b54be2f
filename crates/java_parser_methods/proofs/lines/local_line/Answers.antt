use Rattle.std.proofs.Common.{arith, length}
use Rattle.java_parser_grammar.specs.StatementReading.{local_at}
use Rattle.java_parser_methods.proofs.PassedOn.{within_back}
use Rattle.java_tree.specs.KeptPlaces.{kept, stmt_places, locals_places}
use Rattle.java_parser_types.proofs.LedMarks.{to_equal, led_made}
use Rattle.java_parser_methods.proofs.lines.local_line.Goals as goal

pub returns-clause-gives : goal.returns-clause-gives
unfolding local_at
returns-clause-gives c =
    rw (c.in_ok-locals.ensures.gives, c.in_ok-rest.ensures.gives) c.local.ensures.gives

pub returns-clause-places : goal.returns-clause-places
returns-clause-places c =
    led_made c.local.result (λ x. stmt_places x.0.value) (λ x. kept x.1.now) (locals_places
    c.in_ok-locals.locals.value) (kept c.args.tokens.now) (kept c.in_ok-rest.rest.now) (to_equal (locals_places
    c.in_ok-locals.locals.value) (kept c.args.tokens.now) (kept c.in_ok-locals.rest.now) (kept c.in_ok-rest.rest.now)
    c.in_ok-rest.ensures.places c.in_ok-locals.ensures.places) c.local.ensures.places c.local.ensures.behind

pub returns-clause-shorter : goal.returns-clause-shorter
returns-clause-shorter c =
    within_back c.local.result (λ x. length x.1.now) _ _
    (omega (arith, c.in_ok-locals.ensures.shorter, c.in_ok-rest.ensures.shorter)) c.local.ensures.shorter
