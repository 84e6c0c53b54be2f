use Rattle.std.proofs.Common.{List, None, Some, sym, ap, ◌∙◌, option_map}
use Rattle.std.specs.Arc.{arc_value}
use Rattle.access_domain.specs.Outcomes.{outcomes_held, outcome_among}
use Rattle.access_domain.proofs.MethodOutcomes.{SharedOutcome, past-end, found-at}
use Rattle.access_domain.proofs.outcomes.outcome_at.Goals as goal

pub returns-in_default : goal.returns-in_default
returns-in_default c =
    past-end c.deref.result.now c.args.number c.in_default.ensures.lookup.0
    ∙ ap (λ (xs : List SharedOutcome). outcome_among (outcomes_held xs) (record { 0 = c.args.number }))
    c.deref.ensures.value

pub returns-in-None : goal.returns-in-None
returns-in-None c =
    let read = c.in-Some.ensures.lookup in
    found-at c.deref.result.now c.args.number c.in-Some.place.now None read.0 read.1
    (sym (ap (option_map arc_value) c.in-None.is))
    ∙ ap (λ (xs : List SharedOutcome). outcome_among (outcomes_held xs) (record { 0 = c.args.number }))
    c.deref.ensures.value

pub returns-in-Some-place : goal.returns-in-Some-place
returns-in-Some-place c =
    let read = c.in-Some.ensures.lookup in
    found-at c.deref.result.now c.args.number c.in-Some.place.now (Some c.deref-in-Some-place.result.now) read.0 read.1
    (ap Some c.deref-in-Some-place.ensures ∙ sym (ap (option_map arc_value) c.in-Some-place.is))
    ∙ ap (λ (xs : List SharedOutcome). outcome_among (outcomes_held xs) (record { 0 = c.args.number }))
    c.deref.ensures.value
