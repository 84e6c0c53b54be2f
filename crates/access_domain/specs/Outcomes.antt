-- A contract of a public call rests on this: the outcomes of the methods of a program, as the code holds them, and what
-- they have of one method.
use Rattle.std.specs.Prelude.{◌≡◌, ℕ, List, Option, None, Some, map, option_map, slice_get}
use Rattle.std.specs.Option.{option_flatten}
use Rattle.std.specs.Arc.{arc_value}
use Rattle.std.specs.declared.sync.Arc.{Arc}
use Rattle.std.specs.Global.{Global}
use Rattle.racer_base.specs.declared.ids.MethodId.{MethodId}
use Rattle.access_paths.specs.Order.{PathSet}
use Rattle.core_code.specs.Core.{Core}
use Rattle.access_domain.specs.declared.access.Access.{Access}
use Rattle.access_domain.specs.declared.summary.Summary.{Summary}
use Rattle.access_domain.specs.declared.summary.Outcome.{Outcome}
use Rattle.access_domain.specs.declared.summary.Outcome.TheVariants as code
use Rattle.access_domain.specs.Summaries.{outcomes_of}
use Rattle.access_domain.specs.OutcomeRecords.{records_held}

-- one for each method, none for those that are not analysed
abbrev pub outcomes_held : List (Option (Arc Outcome Global)) → List (Option Outcome)
outcomes_held = map (option_map arc_value)

-- each analysed method has its outcome, and the others have none
abbrev pub AreOutcomes : Core → List (Option (Arc Outcome Global)) → Type 0
AreOutcomes core outcomes = outcomes_held outcomes ≡ outcomes_of core

-- the outcome of a method among those of all; none where it is not analysed
abbrev pub outcome_among : List (Option Outcome) → MethodId → Option Outcome
outcome_among outcomes m = option_flatten (slice_get outcomes m.0)

-- the record of an index of a method among those of all; none where there are too many
abbrev pub record_among : List (Option Outcome) → MethodId → ℕ → Option Access
record_among outcomes m i = slice_get (records_held (outcome_among outcomes m)) i

-- the summary of an outcome; none of a large one
abbrev pub summary_in : Option Outcome → Option Summary
summary_in None = None
summary_in (Some code.Large) = None
summary_in (Some (code.Summary summary)) = Some summary

-- the wobbly paths of an outcome; none of a large one
abbrev pub wobbly_held : Option Outcome → Option PathSet
wobbly_held outcome = option_map (λ (summary : Summary). summary.wobbly) (summary_in outcome)
