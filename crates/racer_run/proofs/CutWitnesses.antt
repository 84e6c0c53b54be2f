-- A witness that is cut out of a report replays over the same sources.
use Rattle.std.proofs.Common.{◌≡◌, ℕ, ◌≤◌, Bool, false, cond, List, Some, codes, length}
use Rattle.std.specs.Prelude.{Ok}
use Rattle.std.proofs.Common.{sym, ap, subst, ◌∙◌, nat_lt}
use Rattle.serde_json.specs.Data.{Data}
use Rattle.container_cells.specs.declared.cell.Containers.{Containers}
use Rattle.racer_base.specs.Outside.{Told, Files}
use Rattle.racer_base.specs.declared.limits.TheConstants.{MAX_FILE_BYTES}
use Rattle.core_code.specs.Core.{Core}
use Rattle.witness_text_files.specs.Answers.{IsJson}
use Rattle.witness_text_files.specs.Files.{File, file_of}
use Rattle.witness_text.specs.declared.verdict.Verdict.TheVariants.{Races}
use Rattle.witness_text.specs.Replaying.{DoWitnessesReplay}
use Rattle.witness_text.specs.Verdicts.{verdict}
use Rattle.racer_sources.specs.OneReading.{OneSource}
use Rattle.racer_sources.specs.Sources.{contents, source_names}
use Rattle.racer_sources.specs.Programs.{Source, Accepted, IsProgram, IsSource}
use Rattle.racer_run.specs.declared.output.RunOutput.{RunOutput}
use Rattle.racer_run.specs.declared.status.Status.{Status}
use Rattle.racer_run.specs.declared.status.Status.TheVariants.{Clean}
use Rattle.racer_words.specs.Words.{WantedReport, WantedReplay, Request, ReportOn, ReplayOf}
use Rattle.racer_run.specs.RunOutputs.{HasReplays, SaysReport}
use Rattle.racer_run.specs.Replays.{IsReplaySaid, SaysReplay, file_said, json_of, json_said, not_a_witness, replay_said}
use Rattle.racer_run.specs.Replays.{verdict_said}
use Rattle.racer_run.specs.Causes.{Invocation, Wrote, IsWhole, IsWholeAnswer}
use Rattle.racer_run.specs.Witnesses.{IsCall, IsCutOut}
use Rattle.racer_run.proofs.OneStatus.{ending_of, whole_answer}
use Rattle.racer_run.proofs.OneReport.{at_folder, whole_of}
use Rattle.racer_run.proofs.JsonBytes.{json-of, not-long}

-- what a call says, whole
answer : (request : Request) (told : Told) (s : Status) (a : Invocation) (v : Wrote) → IsCall request told s a v
    → IsWholeAnswer request (Some told) s v
answer request told s a v call =
    let x = whole_of s a v call.sink_holds (ending_of s a v call.has_memory call.cause) in
    at_folder request a.told told s v call.tells
    (whole_answer s a v x.text x.due x.whole request call.asks call.folder_holds)

-- a program of sources, in whichever folder they are
abbrev pub OneProgram : Type 0
OneProgram =
    (containers : Containers) (a b : Files) (program : Core) → source_names a ≡ source_names b
    → contents a ≡ contents b → IsProgram containers a program → IsProgram containers b program

abbrev races : RunOutput
races = record { status = Clean; text = codes "races\n" }

-- bytes that are not too many, and in JSON a witness file that races
racing-said : (program : Core) (bytes : List ℕ) (d : Data) → length bytes ≤ MAX_FILE_BYTES → IsJson bytes d
    → (file : File) → file_of d ≡ Ok file → verdict program file ≡ Races → replay_said program bytes ≡ races
racing-said program bytes d short json file is racing =
    let few : nat_lt MAX_FILE_BYTES (length bytes) ≡ false = not-long MAX_FILE_BYTES bytes short in
    ap (λ (b : Bool). cond b (not_a_witness (codes "length")) (json_said program (json_of bytes))) few
    ∙ ap (json_said program) (json-of bytes d json)
    ∙ ap (file_said program) is
    ∙ ap verdict_said racing

replay-races : (wanted : WantedReplay) (containers : Containers) (from to : Files) (source : Source) (said : RunOutput)
    (cut : IsCutOut containers from to wanted.witness) → source ≡ Accepted cut.program → DoWitnessesReplay cut.program
    → IsReplaySaid wanted to source said → said ≡ races
replay-races wanted containers from to source said cut same replays says =
    let at : IsReplaySaid wanted to (Accepted cut.program) said =
    subst (λ (s : Source). IsReplaySaid wanted to s said) same says in
    let bytes : at.0 ≡ cut.bytes = let e : Some at.0 ≡ Some cut.bytes = sym at.1 ∙ cut.stands in cc in
    let w = cut.reported in
    let racing = replays w.warning w.sides w.value w.listed w.has_sides w.is_member in
    at.2 ∙ ap (replay_said cut.program) bytes
    ∙ racing-said cut.program cut.bytes w.value cut.short w.is_json racing.0 racing.1 racing.3

pub cut-replays : OneSource → OneProgram →
    (s t : Status) (a b : Invocation) (v w : Wrote) (from to : Told) (report : WantedReport)
    (replay : WantedReplay) → IsCall (ReportOn report) from s a v → IsCall (ReplayOf replay) to t b w
    → IsCutOut report.containers from.files to.files replay.witness → replay.containers ≡ report.containers
    → (t ≡ Clean) × IsWhole w (codes "races\n")
cut-replays one other s t a b v w from to report replay first second cut containers =
    let x = answer (ReportOn report) from s a v first in
    let y = answer (ReplayOf replay) to t b w second in
    let said_x : SaysReport report from.files x.said = x.says in
    let said_y : SaysReplay replay to.files y.said = y.says in
    let replays : HasReplays (Accepted cut.program) =
    subst HasReplays (one report.containers from.files said_x.source (Accepted cut.program) said_x.is cut.accepted)
    said_x.replays in
    let same : said_y.source ≡ Accepted cut.program =
    one report.containers to.files said_y.source (Accepted cut.program)
    (subst (λ (c : Containers). IsSource c to.files said_y.source) containers said_y.is)
    (other report.containers from.files to.files cut.program (sym cut.same_names) (sym cut.same_contents)
    cut.accepted) in
    let is : y.said ≡ races =
    replay-races replay report.containers from.files to.files said_y.source y.said cut same replays said_y.said_so in (
      y.gives ∙ ap (λ (said : RunOutput). said.status) is,
      subst (IsWhole w) (ap (λ (said : RunOutput). said.text) is) y.whole,
    )
