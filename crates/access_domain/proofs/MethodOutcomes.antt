-- The outcome of a method among those of all methods.
use Rattle.std.proofs.Common.{◌≡◌, ℕ, zero, suc, ◌+◌, ◌<◌, ◌≤◌, true, false, cond, List, Option, None, Some, length}
use Rattle.std.proofs.Common.{get_or, ltb, is_none, option_map, slice_get, refl, sym, ap, ◌∙◌, arith, inl, inr}
use Rattle.std.proofs.Common.{zero-add}
use Rattle.std.proofs.lemmas.Bool.{cases_lt, ltb-true, ltb-false}
use Rattle.std.proofs.lemmas.Option.{slice_get-map, slice_get_read, slice_get_past}
use Rattle.std.specs.Arc.{arc_value}
use Rattle.std.specs.Global.{Global}
use Rattle.std.specs.Option.{option_and_then, option_flatten}
use Rattle.std.specs.declared.sync.Arc.{Arc}
use Rattle.racer_base.specs.declared.ids.MethodId.{MethodId}
use Rattle.core_code.specs.Calls.{method_at}
use Rattle.core_code.specs.Core.{Core, Method}
use Rattle.access_domain.specs.declared.access.Access.{Access}
use Rattle.access_domain.specs.declared.summary.Outcome.{Outcome}
use Rattle.access_domain.specs.Findings.{outcome_from}
use Rattle.access_domain.specs.Outcomes.{AreOutcomes, outcomes_held, outcome_among, record_among}
use Rattle.access_domain.specs.Summaries.{outcome_of, outcomes_of, outcomes_from, known_given, known_of_callees}
use Rattle.access_domain.specs.OutcomeRecords.{record_at, records_held}

abbrev pub SharedOutcome : Type 0
SharedOutcome = Option (Arc Outcome Global)

abbrev number : ℕ → MethodId
number i = record { 0 = i }

-- ---- what stands at a place

abbrev flat : Option SharedOutcome → Option Outcome
flat o = option_flatten (option_map (option_map arc_value) o)

among : (xs : List SharedOutcome) (i : ℕ) → outcome_among (outcomes_held xs) (number i) ≡ flat (slice_get xs i)
among xs i = ap option_flatten (slice_get-map (option_map arc_value) xs i)

pub past-end : (xs : List SharedOutcome) (i : ℕ) → false ≡ ltb i (length xs) →
    None ≡ outcome_among (outcomes_held xs) (number i)
past-end xs i past = sym (among xs i ∙ ap flat (slice_get_past xs i (ltb-false i (length xs) (sym past))))

pub found-at : (xs : List SharedOutcome) (i : ℕ) (place : SharedOutcome) (found : Option Outcome) →
    true ≡ ltb i (length xs) → place ≡ get_or xs i place → found ≡ option_map arc_value place →
    found ≡ outcome_among (outcomes_held xs) (number i)
found-at xs i place found within at is =
    is
    ∙ sym (among xs i
    ∙ ap flat (slice_get_read xs (length xs) i place refl (ltb-true i (length xs) (sym within)) at))

-- ---- the outcomes of a program

get-outcomes : (core : Core) (k n i : ℕ) → i < n →
    slice_get (outcomes_from core k n) i ≡ Some (outcome_of core (number (k + i)))
get-outcomes core k zero i within = absurd (omega arith)
get-outcomes core k (suc n) zero within =
    let same : k ≡ k + 0 = omega arith in ap (λ (j : ℕ). Some (outcome_of core (number j))) same
get-outcomes core k (suc n) (suc i) within =
    let moved : suc k + i ≡ k + suc i = omega arith in
    get-outcomes core (suc k) n i (omega arith) ∙ ap (λ (j : ℕ). Some (outcome_of core (number j))) moved

length-outcomes : (core : Core) (k n : ℕ) → length (outcomes_from core k n) ≡ n
length-outcomes core k zero = refl
length-outcomes core k (suc n) = ap suc (length-outcomes core (suc k) n)

none-of : (core : Core) (m : MethodId) → method_at core m ≡ None → outcome_of core m ≡ None
none-of core m none =
    ap (λ (o : Option Method). option_map outcome_from
    (option_and_then (λ (method : Method).
    cond (is_none method.status) (Some (known_given core (known_of_callees core m) method)) None) o))
    none

-- what the outcomes of a program have of a method is its outcome
pub same-outcome : (core : Core) (m : MethodId) → outcome_among (outcomes_of core) m ≡ outcome_of core m
same-outcome core m =
    let n : ℕ = length core.methods in
    elim (cases_lt m.0 n) [
      | inl within ↦
          ap option_flatten (get-outcomes core 0 n m.0 within)
          ∙ ap (λ (j : ℕ). outcome_of core (number j)) (zero-add m.0)
      | inr past ↦
          let beyond : length (outcomes_of core) ≤ m.0 = omega (arith, length-outcomes core 0 n) in
          ap option_flatten (slice_get_past (outcomes_of core) m.0 beyond)
          ∙ sym (none-of core m (slice_get_past core.methods m.0 past))
    ]

pub known-outcome : (core : Core) (outcomes : List SharedOutcome) (m : MethodId) → AreOutcomes core outcomes →
    outcome_among (outcomes_held outcomes) m ≡ outcome_of core m
known-outcome core outcomes m are =
    ap (λ (os : List (Option Outcome)). outcome_among os m) are ∙ same-outcome core m

pub same-record : (core : Core) (m : MethodId) (i : ℕ) → record_among (outcomes_of core) m i ≡ record_at core m i
same-record core m i = ap (λ (o : Option Outcome). slice_get (records_held o) i) (same-outcome core m)

-- the record of an index, as it was found among the outcomes of a program
pub known-record : (core : Core) (outcomes : List SharedOutcome) (m : MethodId) (i : ℕ) (found : Option Access) →
    AreOutcomes core outcomes → found ≡ record_among (outcomes_held outcomes) m i → record_at core m i ≡ found
known-record core outcomes m i found are is =
    sym (is ∙ ap (λ (os : List (Option Outcome)). record_among os m i) are ∙ same-record core m i)
