-- What is found behind a whole method is its outcome.
use Rattle.std.proofs.Common.{◌≡◌, ◌≤◌, Bool, true, false, cond, ◌||◌, length, nat_lt, sym, ap, ◌∙◌}
use Rattle.std.proofs.Common.{unwrap_or}
use Rattle.std.proofs.lemmas.Bool.{le-ltb}
use Rattle.std.specs.FinSet as set
use Rattle.racer_base.specs.declared.limits.TheConstants.{MAX_SUMMARY_KEYS}
use Rattle.racer_base.proofs.Tests.{or_regrouped}
use Rattle.owner_domain.specs.declared.value.Value.TheVariants.{Unnamed}
use Rattle.access_domain.specs.declared.summary.Summary.{Summary}
use Rattle.access_domain.specs.declared.summary.Outcome.TheVariants as code
use Rattle.access_domain.specs.Records.{first_of_keys, different_paths}
use Rattle.access_domain.specs.Findings.{Large, Whole, outcome_from, summary_from}
use Rattle.access_domain.specs.Operations.{Effects}
use Rattle.access_domain.specs.Summaries.{findings_from, is_large, known_from}
use Rattle.access_domain.proofs.AdditionLemmas.{keys_added-nil, paths_added-empty, len-from_list}
use Rattle.access_domain.proofs.Different.{from_list-different}
use Rattle.transfer_steps.specs.declared.found.Found.{Found}
use Rattle.transfer_steps.specs.declared.found.Stop.TheVariants as stop
use Rattle.transfer_steps.specs.Marks.{IsNoted, IsStopped, nothing, summary_held}

held-findings : (e : Effects) (new : Found) → IsNoted nothing e new → summary_held new ≡ summary_from (findings_from e)
held-findings e new m =
    let records = keys_added-nil e.records in
    let paths = paths_added-empty e.wobbly ∙ sym (from_list-different e.wobbly) in
    ap summary_held m.0
    ∙ (λ i. record { accesses = records i; wobbly = paths i; result = unwrap_or e.result Unnamed })

pub outcome-whole : (e : Effects) (new : Found) (made : Summary) → IsNoted nothing e new → made ≡ summary_held new →
    length made.accesses ≤ MAX_SUMMARY_KEYS → set.len made.wobbly ≤ MAX_SUMMARY_KEYS →
    code.Summary made ≡ outcome_from (known_from e)
outcome-whole e new made m is few_records few_paths =
    let same : made ≡ summary_from (findings_from e) = is ∙ held-findings e new m in
    let records : nat_lt MAX_SUMMARY_KEYS (length (first_of_keys e.records)) ≡ false =
    ap (λ (s : Summary). nat_lt MAX_SUMMARY_KEYS (length s.accesses)) (sym same)
    ∙ le-ltb MAX_SUMMARY_KEYS (length made.accesses) few_records in
    let count : set.len made.wobbly ≡ length (different_paths e.wobbly) =
    ap (λ (s : Summary). set.len s.wobbly) same
    ∙ ap set.len (from_list-different e.wobbly) ∙ len-from_list e.wobbly in
    let paths : nat_lt MAX_SUMMARY_KEYS (length (different_paths e.wobbly)) ≡ false =
    ap (nat_lt MAX_SUMMARY_KEYS) (sym count) ∙ le-ltb MAX_SUMMARY_KEYS (set.len made.wobbly) few_paths in
    let small : is_large e ≡ false = (λ i. (m.1 i || records i) || paths i) in
    ap code.Summary same
    ∙ sym (ap (λ (b : Bool). outcome_from (cond b Large (Whole (findings_from e)))) small)

pub outcome-large : (e : Effects) → IsStopped nothing e stop.Large → code.Large ≡ outcome_from (known_from e)
outcome-large e m =
    let count = ap set.len (paths_added-empty e.wobbly) ∙ len-from_list e.wobbly in
    let many : is_large e ≡ true =
    sym (or_regrouped e.large (nat_lt MAX_SUMMARY_KEYS (length (first_of_keys e.records)))
    (nat_lt MAX_SUMMARY_KEYS (length (different_paths e.wobbly))))
    ∙ (λ i. e.large || (nat_lt MAX_SUMMARY_KEYS (length (sym (keys_added-nil e.records) i))
    || nat_lt MAX_SUMMARY_KEYS (sym count i)))
    ∙ m in
    sym (ap (λ (b : Bool). outcome_from (cond b Large (Whole (findings_from e)))) many)
