-- A contract of a public call rests on this: what is said of a made folder.
use Rattle.std.specs.Prelude.{◌≡◌, ℕ}
use Rattle.std.specs.FinMap.{from_entries}
use Rattle.container_cells.specs.declared.cell.Containers.TheVariants.{Opaque}
use Rattle.racer_base.specs.Outside.{Files}
use Rattle.core_code.specs.Core.{Core}
use Rattle.race_pairs.specs.Warnings.{warnings}
use Rattle.race_report.specs.Modes.{made_report}
use Rattle.folder_maker.specs.Folders as maker
use Rattle.racer_sources.specs.Programs.{IsProgram}
use Rattle.racer_run.specs.declared.output.RunOutput.{RunOutput}
use Rattle.racer_run.specs.RunOutputs.{report_status}
use Rattle.racer_words.specs.Words.{WantedMade}

-- the files of a made folder, by its number alone
abbrev pub made_files : ℕ → Files
made_files number = from_entries (maker.made_files number)

abbrev pub made_said : ℕ → Core → RunOutput
made_said number program =
    record { status = report_status (warnings program); text = made_report number program }

-- this is what is said to one who wants a made folder
pub record SaysMade (wanted : WantedMade) (said : RunOutput) : Type 0 where
  pub program : Core
  pub is : IsProgram Opaque (made_files wanted.number) program
  pub said_so : said ≡ made_said wanted.number program
