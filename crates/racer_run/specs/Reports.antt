-- A contract of a public call rests on this: `same_bytes` and `same_report`. What two runs write alike.
use Rattle.std.specs.Prelude.{◌≡◌, ℕ, false, List, ◌++◌, Some}
use Rattle.racer_base.specs.Outside.{Files, taken_and}
use Rattle.racer_sources.specs.Programs.{Source, IsSource}
use Rattle.racer_words.specs.Words.{WantedReport, ReportOn, request_of}
use Rattle.racer_run.specs.RunOutputs.{said_from, typings_behind, IsBehind}
use Rattle.racer_run.specs.Causes.{Wrote}

-- the words ask for no history
abbrev pub AsksNoHistory : List (List ℕ) → Type 0
AsksNoHistory words = (wanted : WantedReport) → request_of words ≡ Some (ReportOn wanted) → wanted.history ≡ false

-- this report on a source was written, and behind it what stands there: the typings of its classes where they are
-- asked for, and at the end nothing, or where it is asked for, a history
pub record WroteReport (wanted : WantedReport) (source : Source) (report : List ℕ) (wrote : Wrote) : Type 0 where
  pub tail : List ℕ
  pub is_behind : IsBehind wanted source tail
  pub taken : wrote.taken_after ≡
      taken_and wrote.taken_before ((report ++ typings_behind wanted.typed source) ++ tail)

-- one report was written to two sinks, for one who wants this and for one who wants that with the same containers: the
-- report on the files
pub record WroteOneReport (files : Files) (first second : WantedReport) (to_first to_second : Wrote) : Type 0 where
  pub source : Source
  pub is : IsSource first.containers files source
  pub report : List ℕ
  pub report_is : report ≡ (said_from first.mode source).text
  pub wrote_first : WroteReport first source report to_first
  pub wrote_second : WroteReport second source report to_second
