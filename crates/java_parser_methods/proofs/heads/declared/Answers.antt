use Rattle.std.proofs.Common.{◌∙◌, ap, arith, length, subst, sym}
use Rattle.java_parser_methods.proofs.PassedOn.{start_kept, within_back}
use Rattle.java_tree.specs.KeptPlaces.{kept, locals_places, Marks, AreAt, start_places}
use Rattle.java_parser_methods.specs.HeadView.{head_places, each_places}
use Rattle.java_parser_methods.specs.TypedReading.{typed_places}
use Rattle.java_parser_methods.proofs.LedMarks.{named_led}
use Rattle.java_parser_types.proofs.LedMarks.{led_through}
use Rattle.java_parser_methods.proofs.heads.declared.Goals as goal

pub returns-in-Some-clause-places : goal.returns-in-Some-clause-places
returns-in-Some-clause-places c =
    led_through c.each.result (λ x. head_places x.0) (λ x. kept x.1.now) (typed_places c.args.front) (each_places
    c.in_ok-variable.variable.value) (kept c.args.tokens.now) (kept c.in-Some.rest.now) (named_led (typed_places
    c.args.front) (each_places c.in_ok-variable.variable.value) c.in-Some.word.now.place (kept c.args.tokens.now) (kept
    c.in-Some.rest.now) c.in-Some.ensures.places c.in_ok-variable.ensures.places) c.each.ensures.places

pub returns-clause-places : goal.returns-clause-places
returns-clause-places c =
    led_through c.counted.result (λ x. head_places x.0) (λ x. kept x.1.now) (typed_places c.args.front) (start_places
    c.in_ok-start.start.value) (kept c.args.tokens.now) (kept c.in_ok-locals.rest.now) (λ begin given rest a. subst (λ
    (ms : Marks). AreAt ms begin) (sym (start_kept _ c.in_ok-start.start.value rest c.in_ok-start.ensures ∙ ap (λ l.
    locals_places l rest) c.into_inner.ensures)) (c.in_ok-locals.ensures.places begin given rest a))
    c.counted.ensures.places

pub returns-in-Some-clause-shorter : goal.returns-in-Some-clause-shorter
returns-in-Some-clause-shorter c =
    within_back c.each.result (λ x. length x.1.now) _ _
    (omega (arith, c.in-Some.ensures.shorter)) c.each.ensures.shorter

pub returns-clause-shorter : goal.returns-clause-shorter
returns-clause-shorter c =
    within_back c.counted.result (λ x. length x.1.now) _ _
    (omega (arith, c.in_ok-locals.ensures.shorter)) c.counted.ensures.shorter

pub counted-requires-clause-few : goal.counted-requires-clause-few
counted-requires-clause-few c =
    omega (arith, c.requires.few, c.in_ok-locals.ensures.shorter)
