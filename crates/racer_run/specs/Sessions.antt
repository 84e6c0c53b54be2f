-- A contract of a public call rests on this: what is said of a session of edits.
use Rattle.std.specs.Prelude.{◌≡◌, ℕ, true, false, List, [], ◌∷◌, ◌++◌, Result, Ok, Err, Some, All, codes, length}
use Rattle.std.specs.Prelude.{map, string_bytes}
use Rattle.std.specs.FinMap.{contains_key, get, insert}
use Rattle.std.specs.Fmt.{decimal}
use Rattle.std.specs.List.{list_all, list_any}
use Rattle.container_cells.specs.declared.cell.Containers.TheVariants.{Opaque}
use Rattle.racer_base.specs.Outside.{Files, same_name}
use Rattle.core_code.specs.Core.{Core}
use Rattle.race_report_modes.specs.declared.Format.TheVariants.{Text}
use Rattle.race_report_modes.specs.declared.Mode.{Mode}
use Rattle.racer_sources.specs.Programs.{Source, Refusal, Accepted, IsSource}
use Rattle.racer_sources.specs.Sources.{source_names, bytes_of}
use Rattle.racer_sources.specs.Kept.{AreKept}
use Rattle.racer_sources.specs.declared.source_files.SourceFiles.{SourceFiles}
use Rattle.racer_words.specs.Words.{WantedEdits}
use Rattle.transfer_ties.specs.Again.{again}
use Rattle.racer_run.specs.declared.output.RunOutput.{RunOutput}
use Rattle.racer_run.specs.declared.status.Status.TheVariants.{NotEdits, Refused}
use Rattle.racer_run_edits.specs.declared.edit_lines.EditLine.{EditLine}
use Rattle.racer_run_edits.specs.declared.edit_lines.EditsFault.{EditsFault}
use Rattle.racer_run_edits.specs.declared.edit_lines.EditsFault.TheVariants as fault
use Rattle.racer_run_edits.specs.Edits.{Edit, NoEdits, TooLong, BadLine, edits_in}
use Rattle.racer_run.specs.RunOutputs.{said_from, HasHeadline, HasReplays}

-- reports are in text, without summaries
abbrev pub plain_mode : Mode
plain_mode = record { format = Text; summaries = false }

abbrev pub why_text : NoEdits → List ℕ
why_text TooLong = codes "length"
why_text (BadLine n) = codes "line " ++ decimal n

abbrev pub not_edits : NoEdits → RunOutput
not_edits why = record { status = NotEdits; text = codes "not edits: " ++ why_text why ++ codes "\n" }

-- a text before that of what is said
abbrev pub said_behind : List ℕ → RunOutput → RunOutput
said_behind text said = record { status = said.status; text = text ++ said.text }

-- the line of an edit of a file: the sources are refused, or so many methods are analysed
abbrev pub refused_line : List ℕ → List ℕ
refused_line file = codes "edit " ++ file ++ codes "\n"

abbrev pub analysed_line : List ℕ → ℕ → List ℕ
analysed_line file count = codes "edit " ++ file ++ codes " analysed " ++ decimal count ++ codes "\n"

-- where they are accepted, those methods are analysed that are not as they were in the last program
abbrev pub edit_line : Core → Edit → Source → List ℕ
edit_line last edit (Refusal line) = refused_line edit.file
edit_line last edit (Accepted program) = analysed_line edit.file (length (again last program))

-- what is said of an edit: its line, and the refusal of the sources as they are then, or the report on them
abbrev pub edit_said : Core → Edit → Source → RunOutput
edit_said last edit source = said_behind (edit_line last edit source) (said_from plain_mode source)

-- the last program that was accepted
abbrev pub program_behind : Core → Source → Core
program_behind last (Refusal line) = last
program_behind last (Accepted program) = program

-- the files once an edit is made: what it names is read of the folder, which stays as it is
abbrev pub edited : Files → Files → Edit → Files
edited folder now edit = insert now edit.file (bytes_of folder edit.content)

-- one step of a session, from the files as they are and the last program that was accepted
pub record IsStep (folder now : Files) (last : Core) (edit : Edit) (source : Source) : Type 0 where
  pub there : contains_key folder edit.content ≡ true
  pub is : IsSource Opaque (edited folder now edit) source
  pub headline : HasHeadline source
  pub replays : HasReplays source

-- these are the sources behind each of the edits
abbrev pub AreSources : Files → Files → Core → List Edit → List Source → Type 0
AreSources folder now last [] [] = Unit {0}
AreSources folder now last [] (source ∷ sources) = ⊥
AreSources folder now last (edit ∷ edits) [] = ⊥
AreSources folder now last (edit ∷ edits) (source ∷ sources) =
    IsStep folder now last edit source
    × AreSources folder (edited folder now edit) (program_behind last source) edits sources

-- one text behind another; the status is that of the last part
abbrev pub with_behind : RunOutput → RunOutput → RunOutput
with_behind first rest = record { status = rest.status; text = first.text ++ rest.text }

-- what was said, and behind it what is said of each edit
abbrev pub session_text : RunOutput → Core → List Edit → List Source → RunOutput
session_text said last [] sources = said
session_text said last (edit ∷ edits) [] = said
session_text said last (edit ∷ edits) (source ∷ sources) =
    with_behind said (session_text (edit_said last edit source) (program_behind last source) edits sources)

-- what is said of a program and then of each of the edits
abbrev pub AreEditsSaid : Files → Core → List Edit → RunOutput → Type 0
AreEditsSaid folder program edits said =
    (sources : List Source) × AreSources folder folder program edits sources
    × (said ≡ session_text (said_from plain_mode (Accepted program)) program edits sources)

-- this is what is said of edits, or of a file without any, behind the program of the folder
abbrev pub IsSessionSaid : Files → Core → Result (List Edit) NoEdits → RunOutput → Type 0
IsSessionSaid folder program (Err why) said = said ≡ not_edits why
IsSessionSaid folder program (Ok edits) said = AreEditsSaid folder program edits said

-- the line of a refusal, or what is said of the edits in the file of this name
abbrev pub IsEditsSaid : WantedEdits → Files → Source → RunOutput → Type 0
IsEditsSaid wanted files (Refusal line) said = said ≡ record { status = Refused; text = line }
IsEditsSaid wanted files (Accepted program) said =
    (bytes : List ℕ) × (get files wanted.edits ≡ Some bytes)
    × IsSessionSaid files program (edits_in (source_names files) bytes) said

-- this is what is said to one who wants a session of edits over a folder with these files
pub record SaysEdits (wanted : WantedEdits) (files : Files) (said : RunOutput) : Type 0 where
  pub source : Source
  pub is : IsSource Opaque files source
  pub said_so : IsEditsSaid wanted files source said
  pub headline : HasHeadline source
  pub replays : HasReplays source

-- each edit names a file of the folder
abbrev pub AreThere : Files → Result (List Edit) NoEdits → Type 0
AreThere files (Err why) = Unit {0}
AreThere files (Ok edits) = list_all (λ (edit : Edit). contains_key files edit.content) edits ≡ true

-- the file with the edits is there, and what they name
pub record HasEdits (files : Files) (name : List ℕ) : Type 0 where
  pub there : contains_key files name ≡ true
  pub named : (bytes : List ℕ) → get files name ≡ Some bytes → AreThere files (edits_in (source_names files) bytes)

-- ---- as the code goes through the edits

abbrev pub refused_said : Edit → List ℕ → RunOutput
refused_said edit line = record { status = Refused; text = refused_line edit.file ++ line }

-- why there are no edits was put behind a text
abbrev pub IsWhyPut : EditsFault → List ℕ → List ℕ → Type 0
IsWhyPut fault.TooLong old new = new ≡ old ++ why_text TooLong
IsWhyPut (fault.BadLine n) old new = new ≡ old ++ why_text (BadLine n)
IsWhyPut fault.Memory old new = ⊥

abbrev pub IsNotEdits : EditsFault → RunOutput → Type 0
IsNotEdits fault.TooLong said = said ≡ not_edits TooLong
IsNotEdits (fault.BadLine n) said = said ≡ not_edits (BadLine n)
IsNotEdits fault.Memory said = ⊥

-- a line names one of these sources
abbrev pub IsSourceOf : SourceFiles → EditLine → Type 0
IsSourceOf sources edit = list_any (same_name edit.file.now) (map string_bytes sources.names.items) ≡ true

abbrev pub AreSourcesOf : List EditLine → SourceFiles → Type 0
AreSourcesOf edits sources = All (IsSourceOf sources) edits

abbrev pub IsThere : Files → Edit → Type 0
IsThere files edit = contains_key files edit.content ≡ true

abbrev pub AreAllThere : Files → List Edit → Type 0
AreAllThere files edits = All (IsThere files) edits

-- what is said of an edit, and what stands then
pub record IsStepSaid (folder now : Files) (last : Core) (edit : Edit) (next : Core) (kept : SourceFiles)
    (said : RunOutput) : Type 0 where
  pub source : Source
  pub step : IsStep folder now last edit source
  pub said_so : said ≡ edit_said last edit source
  pub next_is : next ≡ program_behind last source
  pub kept_are : AreKept (edited folder now edit) kept
