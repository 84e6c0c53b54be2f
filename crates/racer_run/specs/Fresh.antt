-- A contract of a public call rests on this: `sessions_tell_fresh_reports`. What fresh runs say of the files behind
-- each edit.
use Rattle.std.specs.Prelude.{◌≡◌, false, List, [], ◌∷◌}
use Rattle.container_cells.specs.declared.cell.Containers.TheVariants.{Opaque}
use Rattle.racer_base.specs.Outside.{Files}
use Rattle.core_code.specs.Core.{Core}
use Rattle.racer_sources.specs.Programs.{Source}
use Rattle.racer_words.specs.Words.{WantedReport}
use Rattle.racer_run.specs.declared.output.RunOutput.{RunOutput}
use Rattle.racer_run_edits.specs.Edits.{Edit}
use Rattle.racer_run.specs.RunOutputs.{SaysReport}
use Rattle.racer_run.specs.Sessions.{edit_line, edit_said, edited, plain_mode, program_behind, said_behind}

-- a report in text, by some workers, with nothing else
pub record IsPlain (wanted : WantedReport) : Type 0 where
  pub mode : wanted.mode ≡ plain_mode
  pub history : wanted.history ≡ false
  pub containers : wanted.containers ≡ Opaque
  pub typed : wanted.typed ≡ false

-- whatever a fresh run says of these files, the edit says its line and then that
abbrev pub TellsFresh : Files → Core → Edit → Source → Type 0
TellsFresh files last edit source =
    (wanted : WantedReport) → (fresh : RunOutput) → IsPlain wanted → SaysReport wanted files fresh →
    edit_said last edit source ≡ said_behind (edit_line last edit source) fresh

-- so each of the edits, over the files as they are then
abbrev pub TellFresh : Files → Files → Core → List Edit → List Source → Type 0
TellFresh folder now last [] sources = Unit {0}
TellFresh folder now last (edit ∷ edits) [] = ⊥
TellFresh folder now last (edit ∷ edits) (source ∷ sources) =
    TellsFresh (edited folder now edit) last edit source
    × TellFresh folder (edited folder now edit) (program_behind last source) edits sources
