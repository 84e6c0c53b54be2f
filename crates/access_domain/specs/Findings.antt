-- A contract of a public call rests on this: what is known of a method, in lists, and the same as the code holds it.
use Rattle.std.specs.Prelude.{List, Option}
use Rattle.std.specs.FinSet as set
use Rattle.racer_base.specs.declared.ids.MethodId.{MethodId}
use Rattle.access_paths.specs.declared.path.Path.{Path}
use Rattle.owner_domain.specs.declared.value.Value.{Value}
use Rattle.access_domain.specs.declared.access.Access.{Access}
use Rattle.access_domain.specs.declared.summary.Summary.{Summary}
use Rattle.access_domain.specs.declared.summary.Outcome.{Outcome}
use Rattle.access_domain.specs.declared.summary.Outcome.TheVariants as code

-- what is found of a method: its records, the first of each key; its wobbly paths, each once; and what it returns
pub record Findings : Type 0 where
  pub records : List Access
  pub wobbly : List Path
  pub result : Value

-- what is known of an analysed method: its findings, or that there are too many
pub data Known : Type 0 where
  Large : Known
  Whole : (findings : Findings) → Known

-- what is known of the methods: nothing of those that are not analysed
abbrev pub Table : Type 0
Table = MethodId → Option Known

-- the findings as the code holds them: the wobbly paths are a set there
abbrev pub summary_from : Findings → Summary
summary_from found = record { accesses = found.records; wobbly = set.from_list found.wobbly; result = found.result }

abbrev pub outcome_from : Known → Outcome
outcome_from Large = code.Large
outcome_from (Whole found) = code.Summary (summary_from found)
