-- A contract of a public call rests on this: what is said of a witness file that is replayed.
use Rattle.std.specs.Prelude.{◌≡◌, ℕ, List, ◌++◌, Option, None, Some, Result, Ok, Err, codes, length, nat_lt}
use Rattle.std.specs.Prelude.{if◌then◌else◌}
use Rattle.std.specs.Str.{is_utf8}
use Rattle.std.specs.FinMap.{get}
use Rattle.serde_json.specs.Data.{Data}
use Rattle.serde_json.specs.Read.{read}
use Rattle.racer_base.specs.Outside.{Files}
use Rattle.racer_base.specs.declared.limits.TheConstants.{MAX_FILE_BYTES}
use Rattle.core_code.specs.Core.{Core}
use Rattle.racer_sources.specs.Programs.{Source, Refusal, Accepted, IsSource}
use Rattle.witness_text_files.specs.Files.{File, file_of}
use Rattle.witness_text_files.specs.declared.fault.Field.{Field}
use Rattle.witness_text.specs.Lines.{field_name, verdict_line}
use Rattle.witness_text.specs.Verdicts.{verdict}
use Rattle.witness_text.specs.declared.verdict.Verdict.{Verdict}
use Rattle.witness_text.specs.declared.verdict.Verdict.TheVariants.{Races, NoSuchEntry, NoSuchObject, NoSuchPath}
use Rattle.witness_text.specs.declared.verdict.Verdict.TheVariants.{StopsAt, NoConflict, OtherCell}
use Rattle.racer_run.specs.declared.output.RunOutput.{RunOutput}
use Rattle.racer_run.specs.declared.status.Status.{Status}
use Rattle.racer_run.specs.declared.status.Status.TheVariants.{Clean, Refused, NoRace, NotAWitness}
use Rattle.racer_words.specs.Words.{WantedReplay}

-- a replay is clean where the threads race
abbrev pub verdict_status : Verdict → Status
verdict_status Races = Clean
verdict_status NoSuchEntry = NoRace
verdict_status (NoSuchObject index) = NoRace
verdict_status NoSuchPath = NoRace
verdict_status (StopsAt leg step) = NoRace
verdict_status NoConflict = NoRace
verdict_status OtherCell = NoRace

abbrev pub verdict_said : Verdict → RunOutput
verdict_said v = record { status = verdict_status v; text = verdict_line v }

-- the file is too long (`length`), is no JSON (`json`), or lacks a member
abbrev pub not_a_witness : List ℕ → RunOutput
not_a_witness why = record { status = NotAWitness; text = codes "not a witness: " ++ why ++ codes "\n" }

-- the verdict on a value, where it is a witness file
abbrev pub file_said : Core → Result File Field → RunOutput
file_said program (Ok file) = verdict_said (verdict program file)
file_said program (Err field) = not_a_witness (field_name field)

-- the value that bytes are, where they are JSON
abbrev pub json_of : List ℕ → Option Data
json_of bytes = if is_utf8 bytes then read bytes else None

abbrev pub json_said : Core → Option Data → RunOutput
json_said program None = not_a_witness (codes "json")
json_said program (Some d) = file_said program (file_of d)

-- what is said of a file with these bytes
abbrev pub replay_said : Core → List ℕ → RunOutput
replay_said program bytes =
    if nat_lt MAX_FILE_BYTES (length bytes) then not_a_witness (codes "length") else json_said program (json_of bytes)

-- the line of a refusal, or what is said of the file of this name
abbrev pub IsReplaySaid : WantedReplay → Files → Source → RunOutput → Type 0
IsReplaySaid wanted files (Refusal line) said = said ≡ record { status = Refused; text = line }
IsReplaySaid wanted files (Accepted program) said =
    (bytes : List ℕ) × (get files wanted.witness ≡ Some bytes) × (said ≡ replay_said program bytes)

-- this is what is said to one who wants a replay over a folder with these files
pub record SaysReplay (wanted : WantedReplay) (files : Files) (said : RunOutput) : Type 0 where
  pub source : Source
  pub is : IsSource wanted.containers files source
  pub said_so : IsReplaySaid wanted files source said
