-- A contract of a public call rests on this: what a run has to say, and the status that goes with it.
use Rattle.std.specs.Prelude.{◌≡◌, ℕ, Bool, true, false, List, [], ◌∷◌, ◌++◌, codes, if◌then◌else◌}
use Rattle.racer_base.specs.Outside.{Files}
use Rattle.core_code.specs.Core.{Core}
use Rattle.race_pairs.specs.declared.warning.Warning.{Warning}
use Rattle.race_pairs.specs.Warnings.{warnings}
use Rattle.race_report_modes.specs.declared.Mode.{Mode}
use Rattle.race_report.specs.Modes.{report}
use Rattle.witness_build_laws.specs.Headline.{AreConfirmed}
use Rattle.witness_text.specs.Replaying.{DoWitnessesReplay}
use Rattle.racer_sources.specs.Programs.{Source, Refusal, Accepted, IsSource}
use Rattle.summary_store.specs.declared.machine.Event.{Event}
use Rattle.summary_store.specs.Machine.{Legal, IsComplete}
use Rattle.summary_store.specs.Setups.{setup_of}
use Rattle.racer_run_history.specs.History.{history_text}
use Rattle.racer_run_typings.specs.Lines.{typings_text}
use Rattle.typed_core_laws.specs.Promise.{AreNeverBlocked}
use Rattle.racer_run.specs.declared.output.RunOutput.{RunOutput}
use Rattle.racer_run.specs.declared.status.Status.{Status}
use Rattle.racer_run.specs.declared.status.Status.TheVariants.{Clean, Warned, Refused}
use Rattle.racer_words.specs.Words.{WantedReport}

abbrev pub usage_text : List ℕ
usage_text =
    codes "usage: racer (FOLDER | --made N) [--workers N] [--json] [--summaries] [--history]"
    ++ codes " [--containers] [--typed] [--replay NAME] [--edits NAME]\n"

abbrev pub fault_text : List ℕ
fault_text = codes "folder fault\n"

-- the status of a report with these warnings
abbrev pub report_status : List Warning → Status
report_status [] = Clean
report_status (w ∷ ws) = Warned

-- the line of a refusal, or the report on a program
abbrev pub said_from : Mode → Source → RunOutput
said_from mode (Refusal line) = record { status = Refused; text = line }
said_from mode (Accepted program) = record { status = report_status (warnings program); text = report mode program }

-- the same with this behind its text
abbrev pub with_tail : RunOutput → List ℕ → RunOutput
with_tail said tail = record { status = said.status; text = said.text ++ tail }

-- the lines of the classes, where they are asked for, behind what is said of a source
abbrev pub typings_behind : Bool → Source → List ℕ
typings_behind asked (Refusal line) = []
typings_behind asked (Accepted program) = if asked then typings_text program else []

-- what is said of a source before a history
abbrev pub said_with : WantedReport → Source → RunOutput
said_with wanted source = with_tail (said_from wanted.mode source) (typings_behind wanted.typed source)

-- the headline: each warning whose path is stable and whose ways are whole is confirmed, and its run ends in its race
abbrev pub HasHeadline : Source → Type 0
HasHeadline (Refusal line) = Unit {0}
HasHeadline (Accepted program) = AreConfirmed program

-- each member `witness` of a confirmed mark in the JSON report is a witness file whose replay says that it races
abbrev pub HasReplays : Source → Type 0
HasReplays (Refusal line) = Unit {0}
HasReplays (Accepted program) = DoWitnessesReplay program

-- of a class that is said to be typed no warning is marked blocked or unread, and each whose path is stable and whose
-- ways are short is confirmed
abbrev pub HasTypedClasses : Source → Type 0
HasTypedClasses (Refusal line) = Unit {0}
HasTypedClasses (Accepted program) = AreNeverBlocked program

-- these are the lines of a legal and complete history of so many workers on a program
pub record IsHistory (program : Core) (workers : ℕ) (lines : List ℕ) : Type 0 where
  pub history : List Event
  pub legal : Legal (setup_of program workers) history
  pub complete : IsComplete (setup_of program workers) history
  pub lines_are : lines ≡ history_text program history

-- what stands at the end, behind the report on a program and its classes: nothing, or where a history is asked for,
-- its lines
abbrev pub IsTail : Bool → ℕ → Core → List ℕ → Type 0
IsTail false workers program tail = tail ≡ []
IsTail true workers program tail = IsHistory program workers tail

-- what stands at the end of what is said of a source
abbrev pub IsBehind : WantedReport → Source → List ℕ → Type 0
IsBehind wanted (Refusal line) tail = tail ≡ []
IsBehind wanted (Accepted program) tail = IsTail wanted.history wanted.workers program tail

-- this is what is said to one who wants a report on a folder with these files
pub record SaysReport (wanted : WantedReport) (files : Files) (said : RunOutput) : Type 0 where
  pub source : Source
  pub is : IsSource wanted.containers files source
  pub tail : List ℕ
  pub is_behind : IsBehind wanted source tail
  pub said_so : said ≡ with_tail (said_with wanted source) tail
  pub headline : HasHeadline source
  pub replays : HasReplays source
  pub typed : HasTypedClasses source
