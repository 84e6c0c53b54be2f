use Rattle.std.proofs.Common.{◌≡◌, ◌∙◌, List, ℕ, Option, Some, option_map, subst}
use Rattle.std.specs.Prelude.{IfOk}
use Rattle.std.specs.FinMap.{get}
use Rattle.std.specs.Option.{IfSome}
use Rattle.container_cells.specs.declared.cell.Containers.TheVariants.{Opaque}
use Rattle.core_code.specs.Program.{core}
use Rattle.racer_base.specs.Outside.{Told}
use Rattle.racer_sources.specs.Contents.{front}
use Rattle.racer_sources.specs.Finding.{FailsByMemory}
use Rattle.racer_sources.specs.Kept.{AreKept, HasKept, source_kept}
use Rattle.racer_sources.specs.Programs.{IsSource}
use Rattle.racer_sources.specs.Sources.{source_names}
use Rattle.racer_sources.specs.declared.kept.KeptProgram.{KeptProgram}
use Rattle.racer_words.specs.Requests.{edits_of}
use Rattle.racer_run_edits.specs.Edits.{edits_in}
use Rattle.racer_run.specs.Sessions.{AreThere, IsSessionSaid}
use Rattle.racer_run.proofs.EditRequests.{says_edits, says_refused, steady_edits}
use Rattle.racer_run.proofs.sessions.edited_on.Goals as goal

pub returns-in_ok-bytes-in-Accepted-clause-said : goal.returns-in_ok-bytes-in-Accepted-clause-said
returns-in_ok-bytes-in-Accepted-clause-said g c =
    let tells = g.F.Folder.told c.args.folder.now in
    let wanted = edits_of c.args.wanted.now in
    let program = core c.in-Accepted.program in
    let kept = c.in-Accepted.sources in
    let read = c.in_ok-bytes-in-Accepted.bytes.items in
    let result = c.behind_program.result in
    let source =
    subst (λ (f : KeptProgram). IfSome tells (λ (t : Told). IsSource Opaque t.files (source_kept f))) c.in-Accepted.is
    c.in_ok-program.ensures.found in
    let are =
    subst (λ (f : KeptProgram). IfSome tells (λ (t : Told). HasKept t.files f)) c.in-Accepted.is
    c.in_ok-program.ensures.kept in
    let file =
    subst (λ (name : List ℕ). IfSome tells (λ (t : Told). option_map front (get t.files name) ≡ Some read))
    c.as_str-in-Accepted.ensures
    (subst (λ (o : Option Told). IfSome o
    (λ (t : Told). option_map front (get t.files c.as_str-in-Accepted.result.now) ≡ Some read))
    c.kept_program.ensures.keeps.told c.in_ok-bytes-in-Accepted.ensures.bytes) in
    let said =
    subst (λ (bytes : List ℕ). IfOk result (λ said. IfSome tells (λ (t : Told). AreKept t.files kept
    → IsSessionSaid t.files program (edits_in (source_names t.files) bytes) said))) c.as_slice.ensures.value
    (subst (λ (o : Option Told). IfOk result (λ said. IfSome o (λ (t : Told). AreKept t.files kept
    → IsSessionSaid t.files program (edits_in (source_names t.files) c.as_slice.result.now) said)))
    (c.in_ok-bytes-in-Accepted.ensures.told ∙ c.kept_program.ensures.keeps.told) c.behind_program.ensures.said) in
    says_edits tells result wanted program kept read (c.whole_warnings_race.ensures c.in-Accepted.program)
    (c.witnesses_in_reports_replay.ensures c.in-Accepted.program) source are file said

pub returns-in_ok-bytes-in-Accepted-clause-steady : goal.returns-in_ok-bytes-in-Accepted-clause-steady
returns-in_ok-bytes-in-Accepted-clause-steady g c = λ steady.
    let tells = g.F.Folder.told c.args.folder.now in
    let wanted = edits_of c.args.wanted.now in
    let kept = c.in-Accepted.sources in
    let read = c.in_ok-bytes-in-Accepted.bytes.items in
    let result = c.behind_program.result in
    let are =
    subst (λ (f : KeptProgram). IfSome tells (λ (t : Told). HasKept t.files f)) c.in-Accepted.is
    c.in_ok-program.ensures.kept in
    let file =
    subst (λ (name : List ℕ). IfSome tells (λ (t : Told). option_map front (get t.files name) ≡ Some read))
    c.as_str-in-Accepted.ensures
    (subst (λ (o : Option Told). IfSome o
    (λ (t : Told). option_map front (get t.files c.as_str-in-Accepted.result.now) ≡ Some read))
    c.kept_program.ensures.keeps.told c.in_ok-bytes-in-Accepted.ensures.bytes) in
    let fails =
    subst (λ (bytes : List ℕ). IfSome tells (λ (t : Told). AreKept t.files kept
    → AreThere t.files (edits_in (source_names t.files) bytes) → FailsByMemory result)) c.as_slice.ensures.value
    (subst (λ (o : Option Told). IfSome o (λ (t : Told). AreKept t.files kept
    → AreThere t.files (edits_in (source_names t.files) c.as_slice.result.now) → FailsByMemory result))
    (c.in_ok-bytes-in-Accepted.ensures.told ∙ c.kept_program.ensures.keeps.told)
    (c.behind_program.ensures.steady
    (c.in_ok-bytes-in-Accepted.ensures.stays (c.kept_program.ensures.keeps.stays steady)))) in
    steady_edits tells result wanted kept read are file fails

pub returns-in-Refused-clause-said : goal.returns-in-Refused-clause-said
returns-in-Refused-clause-said g c =
    let tells = g.F.Folder.told c.args.folder.now in
    says_refused tells (edits_of c.args.wanted.now) c.in-Refused.text
    (subst (λ (f : KeptProgram). IfSome tells (λ (t : Told). IsSource Opaque t.files (source_kept f)))
    c.in-Refused.is c.in_ok-program.ensures.found)
