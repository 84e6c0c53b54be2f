-- No public contract rests on this: what stands behind what is said of a source.
use Rattle.std.specs.Prelude.{◌≡◌, ℕ, Bool, true, false, List, []}
use Rattle.core_code.specs.Core.{Core}
use Rattle.racer_sources.specs.Programs.{Source}
use Rattle.racer_words.specs.Words.{WantedReport}
use Rattle.summary_store.specs.declared.machine.Event.{Event}
use Rattle.racer_run_history.specs.History.{history_text}
use Rattle.racer_run.specs.declared.output.RunOutput.{RunOutput}
use Rattle.racer_run.specs.RunOutputs.{said_with, with_tail, IsBehind}

-- the lines of a history, where they are asked for
abbrev pub lines_of : Bool → Core → List Event → List ℕ
lines_of false program history = []
lines_of true program history = history_text program history

-- this is what is said of a source, with lines behind it that may stand there
pub record IsSaidWith (wanted : WantedReport) (source : Source) (said : RunOutput) : Type 0 where
  pub tail : List ℕ
  pub is_behind : IsBehind wanted source tail
  pub said_so : said ≡ with_tail (said_with wanted source) tail
