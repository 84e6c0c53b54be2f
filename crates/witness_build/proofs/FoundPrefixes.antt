-- The shortest unstable prefix, from what is found of both methods.
use Rattle.std.proofs.Common.{◌≡◌, ℕ, Bool, ◌||◌, List, Option, None, Some, length, refl, sym, ap, subst}
use Rattle.std.proofs.Common.{◌∙◌, option_map}
use Rattle.std.specs.Prelude.{MatchOption}
use Rattle.racer_base.specs.declared.ids.MethodId.{MethodId}
use Rattle.access_paths.specs.declared.path.Path.{Path}
use Rattle.access_paths.specs.Order.{PathSet}
use Rattle.access_paths.specs.Paths.{front}
use Rattle.access_domain.specs.declared.summary.Outcome.{Outcome}
use Rattle.access_domain.specs.Summaries.{outcome_of, outcomes_of}
use Rattle.access_domain.specs.Outcomes.{outcome_among, wobbly_held, record_among}
use Rattle.access_domain.proofs.MethodOutcomes.{same-outcome, same-record}
use Rattle.access_domain.specs.OutcomeRecords.{record_at}
use Rattle.core_code.specs.Core.{Core}
use Rattle.core_ways.specs.Stable.{is_wobbly, unstable_prefix}
use Rattle.wobbly_paths.specs.Sets.{HasNoPrefix, IsShortestPrefix}
use Rattle.witness_build.specs.ShortestPrefix.{IsLeast, holds_front, least}
use Rattle.witness_build.proofs.LeastPrefix.{either, first-prefix, least-both, wobbly-held}

pub least-of-set : (paths : PathSet) (p : Path) (answer : Option ℕ) →
    MatchOption answer (HasNoPrefix paths p (length p.fields)) (IsShortestPrefix paths p) →
    IsLeast (holds_front (Some paths) p) (length p.fields) answer
least-of-set paths p None none = λ k lt. none k lt
least-of-set paths p (Some n) is = record { within = is.proper; passes = is.there; none_before = is.shortest }

pub least-of-none : (p : Path) → IsLeast (holds_front None p) (length p.fields) None
least-of-none p = λ k lt. refl

-- ---- among the outcomes of all methods

pub wobbly-found : (core : Core) (outcomes : List (Option Outcome)) (m : MethodId) → outcomes ≡ outcomes_of core →
    wobbly_held (outcome_among outcomes m) ≡ wobbly_held (outcome_of core m)
wobbly-found core outcomes m are =
    ap (λ (os : List (Option Outcome)). wobbly_held (outcome_among os m)) are ∙ ap wobbly_held (same-outcome core m)

pub record-found : (core : Core) (outcomes : List (Option Outcome)) (m : MethodId) (i : ℕ) →
    outcomes ≡ outcomes_of core →
    record_among outcomes m i ≡ record_at core m i
record-found core outcomes m i are =
    ap (λ (os : List (Option Outcome)). record_among os m i) are ∙ same-record core m i

-- ---- the shortest prefix

abbrev wobbly_of : Core → MethodId → Option PathSet
wobbly_of core m = wobbly_held (outcome_of core m)

pub unstable-is : (core : Core) (outcomes : List (Option Outcome)) (m1 m2 : MethodId) (p : Path)
    (w v : Option PathSet) (a b answer : Option ℕ) → outcomes ≡ outcomes_of core →
    w ≡ wobbly_held (outcome_among outcomes m1) → v ≡ wobbly_held (outcome_among outcomes m2) →
    IsLeast (holds_front w p) (length p.fields) a → IsLeast (holds_front v p) (length p.fields) b →
    answer ≡ least a b → option_map (λ n. front n p) answer ≡ unstable_prefix core m1 m2 p
unstable-is core outcomes m1 m2 p w v a b answer are x y first second is =
    let one : w ≡ wobbly_of core m1 = x ∙ wobbly-found core outcomes m1 are in
    let other : v ≡ wobbly_of core m2 = y ∙ wobbly-found core outcomes m2 are in
    let tests : ◌≡◌ {A = ℕ → Bool} (either (holds_front w p) (holds_front v p))
    (λ k. is_wobbly core m1 (front k p) || is_wobbly core m2 (front k p)) =
    (λ i k. (ap (λ o. holds_front o p k) one ∙ sym (wobbly-held core m1 (front k p))) i
    || (ap (λ o. holds_front o p k) other ∙ sym (wobbly-held core m2 (front k p))) i) in
    sym (first-prefix (λ q. is_wobbly core m1 q || is_wobbly core m2 q) p answer
    (subst (λ (test : ℕ → Bool). IsLeast test (length p.fields) answer) tests
    (subst (IsLeast (either (holds_front w p) (holds_front v p)) (length p.fields)) (sym is)
    (least-both (holds_front w p) (holds_front v p) (length p.fields) a b first second))))
