-- What is said of a session, as the code goes through its edits.
use Rattle.std.proofs.Common.{◌≡◌, ℕ, zero, suc, ◌+◌, ◌<◌, true, List, [], ◌∷◌}
use Rattle.std.proofs.Common.{Option, None, Some, Result, Ok, Err, refl, sym, ap, subst, ◌∙◌, arith, length, drop}
use Rattle.std.proofs.Common.{◌++◌, map, get_or, option_map, string_bytes, codes, append_assoc, String}
use Rattle.std.proofs.Common.{Vec, Global}
use Rattle.std.specs.Prelude.{IfOk, IsErrAnd, OnOk}
use Rattle.std.specs.FinMap.{get, insert}
use Rattle.std.specs.List.{list_any}
use Rattle.std.specs.Option.{is_some, IfSome}
use Rattle.std.proofs.lemmas.List.{drop_more}
use Rattle.std.proofs.lemmas.List.Elements.{All-head, All-tail}
use Rattle.container_cells.specs.declared.cell.Containers.TheVariants.{Opaque}
use Rattle.race_pairs.specs.declared.warning.Warning.{Warning}
use Rattle.race_pairs.specs.Warnings.{warnings}
use Rattle.racer_base.specs.Outside.{Files, Told, same_name}
use Rattle.racer_base.specs.declared.outside.FolderFault.{FolderFault}
use Rattle.racer_base.specs.declared.outside.FolderFault.TheVariants.{Memory}
use Rattle.core_code.specs.Core.{Core}
use Rattle.core_code.specs.Program.{core}
use Rattle.core_code.specs.declared.program.Program.{Program}
use Rattle.racer_sources.specs.Contents.{front}
use Rattle.racer_sources.specs.Finding.{FailsByMemory}
use Rattle.racer_sources.specs.Kept.{AreKept}
use Rattle.racer_sources.specs.Programs.{Source, Refusal, Accepted, IsSource, source_of}
use Rattle.racer_sources.specs.Sources.{source_names, bytes_of}
use Rattle.racer_sources.specs.declared.programs.FoundProgram.{FoundProgram}
use Rattle.racer_sources.specs.declared.programs.FoundProgram.TheVariants as found
use Rattle.racer_sources.specs.declared.source_files.SourceFiles.{SourceFiles}
use Rattle.transfer_ties.specs.Again.{again}
use Rattle.witness_build_laws.specs.Headline.{AreConfirmed}
use Rattle.witness_text.specs.Replaying.{DoWitnessesReplay}
use Rattle.racer_run_edits.specs.declared.edit_lines.EditLine.{EditLine}
use Rattle.racer_run_edits.specs.declared.edit_lines.EditsFault.{EditsFault}
use Rattle.racer_run_edits.specs.declared.edit_lines.EditsFault.TheVariants as fault
use Rattle.racer_run.specs.declared.output.RunOutput.{RunOutput}
use Rattle.racer_run.specs.declared.status.Status.TheVariants.{NotEdits}
use Rattle.racer_run_edits.specs.EditLines.{seen}
use Rattle.racer_run_edits.specs.Edits.{Edit, NoEdits, TooLong, BadLine}
use Rattle.racer_run.specs.RunOutputs.{said_from, report_status, HasHeadline, HasReplays}
use Rattle.racer_run.specs.Sessions.{AreSources, AreEditsSaid}
use Rattle.racer_run.specs.Sessions.{IsStepSaid, IsSourceOf, AreSourcesOf, IsThere, AreAllThere}
use Rattle.racer_run.specs.Sessions.{IsNotEdits, IsWhyPut, analysed_line, edited, edit_line, edit_said, plain_mode}
use Rattle.racer_run.specs.Sessions.{program_behind, said_behind, session_text, why_text, with_behind}
use Rattle.racer_run.specs.Statuses.{is_edits_status}

pub if_ok : {T E : Type 0} (r : Result T E) (x : T) (P : T → Type 0) → P x → IfOk r (λ y. y ≡ x) → IfOk r P
if_ok (Ok y) x P h e = subst P (sym e) h
if_ok (Err e) x P h is = tt

pub on_ok : {T E : Type 0} (P : Type 0) (r : Result T E) → P → OnOk r P
on_ok P (Ok x) p = p
on_ok P (Err e) p = tt

-- ---- why there are no edits

why_line : (why : NoEdits) (old new text : List ℕ) → new ≡ old ++ why_text why → old ≡ codes "not edits: "
    → text ≡ new ++ codes "\n" → text ≡ codes "not edits: " ++ why_text why ++ codes "\n"
why_line why old new text is before behind =
    behind
    ∙ ap (λ (t : List ℕ). t ++ codes "\n") (is ∙ ap (λ (t : List ℕ). t ++ why_text why) before)

pub why_said : (f : EditsFault) (old new text : List ℕ) → IsWhyPut f old new → old ≡ codes "not edits: "
    → text ≡ new ++ codes "\n" → IsNotEdits f (record { status = NotEdits; text = text })
why_said fault.TooLong old new text is before behind =
    λ i. record { status = NotEdits; text = why_line TooLong old new text is before behind i }
why_said (fault.BadLine n) old new text is before behind =
    λ i. record { status = NotEdits; text = why_line (BadLine n) old new text is before behind i }
why_said fault.Memory old new text is before behind = is

pub not_edits_status : (f : EditsFault) (said : RunOutput) → IsNotEdits f said → is_edits_status said.status ≡ true
not_edits_status fault.TooLong said is = ap (λ (s : RunOutput). is_edits_status s.status) is
not_edits_status (fault.BadLine n) said is = ap (λ (s : RunOutput). is_edits_status s.status) is
not_edits_status fault.Memory said is = absurd is

-- ---- one edit

by_warnings : (found : List Warning) → is_edits_status (report_status found) ≡ true
by_warnings [] = refl
by_warnings (w ∷ ws) = refl

from_status : (source : Source) → is_edits_status (said_from plain_mode source).status ≡ true
from_status (Refusal line) = refl
from_status (Accepted program) = by_warnings (warnings program)

pub edit_status : (last : Core) (edit : Edit) (source : Source) (said : RunOutput) → said ≡ edit_said last edit source
    → is_edits_status said.status ≡ true
edit_status last edit source said is = ap (λ (s : RunOutput). is_edits_status s.status) is ∙ from_status source

pub report_status_said : (program : Core) (said : RunOutput) → said ≡ said_from plain_mode (Accepted program)
    → is_edits_status said.status ≡ true
report_status_said program said is =
    ap (λ (s : RunOutput). is_edits_status s.status) is ∙ from_status (Accepted program)

pub accepted_said : (last now : Core) (edit : Edit) (program : Core) (line : List ℕ) (count : ℕ) (said : RunOutput)
    → now ≡ program → line ≡ analysed_line edit.file count → count ≡ length (again last program)
    → said ≡ said_from plain_mode (Accepted now) → said_behind line said ≡ edit_said last edit (Accepted program)
accepted_said last now edit program line count said same line_is counted is =
    ap (λ (text : List ℕ). said_behind text said) (line_is ∙ ap (analysed_line edit.file) counted)
    ∙ ap (said_behind (edit_line last edit (Accepted program)))
    (is ∙ ap (λ (p : Core). said_from plain_mode (Accepted p)) same)

pub headline_of : ((program : Program) → AreConfirmed (core program)) → (f : FoundProgram) → HasHeadline (source_of f)
headline_of law (found.Accepted program) = law program
headline_of law (found.Refused line) = tt

pub replays_of : ((program : Program) → DoWitnessesReplay (core program)) → (f : FoundProgram)
    → HasReplays (source_of f)
replays_of law (found.Accepted program) = law program
replays_of law (found.Refused line) = tt

-- a file that was read is there, and this is the front of it
read_there : (o : Option (List ℕ)) (read : List ℕ) → option_map front o ≡ Some read
    → (is_some o ≡ true) × (read ≡ front (elim o [ None ↦ [] | (Some bytes) ↦ bytes ]))
read_there None read e = absurd (let bad : ◌≡◌ {A = Option (List ℕ)} None (Some read) = e in cc)
read_there (Some bytes) read e = (refl, let same : front bytes ≡ read = cc in sym same)

step_at : (folder now : Files) (edit : EditLine) (old new : SourceFiles) (read : List ℕ) (f : FoundProgram)
    (last next : Core) (said : RunOutput) → option_map front (get folder edit.content.now) ≡ Some read
    → IsSourceOf old edit
    → ((files : Files) (whole : List ℕ) → AreKept files old
    → list_any (same_name edit.file.now) (source_names files) ≡ true → read ≡ front whole
    → AreKept (insert files edit.file.now whole) new)
    → ((files : Files) → AreKept files new → IsSource Opaque files (source_of f)) → HasHeadline (source_of f)
    → HasReplays (source_of f) → said ≡ edit_said last (seen edit) (source_of f)
    → next ≡ program_behind last (source_of f) → AreKept now old
    → IsStepSaid folder now last (seen edit) next new said
step_at folder now edit old new read f last next said is source replaced program headline replays said_so next_is kept =
    let there = read_there (get folder edit.content.now) read is in
    let named : list_any (same_name edit.file.now) (source_names now) ≡ true =
    ap (list_any (same_name edit.file.now)) (sym kept.names) ∙ source in
    let kept_then = replaced now (bytes_of folder edit.content.now) kept named there.1 in
    record {
      source = source_of f;
      step = record {
        there = there.0;
        is = program (edited folder now (seen edit)) kept_then;
        headline = headline;
        replays = replays;
      };
      said_so = said_so;
      next_is = next_is;
      kept_are = kept_then;
    }

pub step_said : (o : Option Told) (edit : EditLine) (old new : SourceFiles) (read : List ℕ) (f : FoundProgram)
    (last next : Core) (said : RunOutput)
    → IfSome o (λ (t : Told). option_map front (get t.files edit.content.now) ≡ Some read) → IsSourceOf old edit
    → ((files : Files) (whole : List ℕ) → AreKept files old
    → list_any (same_name edit.file.now) (source_names files) ≡ true → read ≡ front whole
    → AreKept (insert files edit.file.now whole) new)
    → ((files : Files) → AreKept files new → IsSource Opaque files (source_of f)) → HasHeadline (source_of f)
    → HasReplays (source_of f) → said ≡ edit_said last (seen edit) (source_of f)
    → next ≡ program_behind last (source_of f)
    → IfSome o (λ (t : Told). (now : Files) → AreKept now old → IsStepSaid t.files now last (seen edit) next new said)
step_said None edit old new read f last next said is source replaced program headline replays said_so next_is = tt
step_said (Some t) edit old new read f last next said is source replaced program headline replays said_so next_is =
    λ now kept.
    step_at t.files now edit old new read f last next said is source replaced program headline replays said_so next_is
    kept

-- ---- one edit after the other

-- what is said of the edits that are left, behind what was said, is what is said of all
pub record GoesOn (folder : Files) (program : Core) (edits left : List Edit) (last : Core) (kept : SourceFiles)
    (said : RunOutput) : Type 0 where
  pub now : Files
  pub kept_are : AreKept now kept
  pub rest : (sources : List Source) → AreSources folder now last left sources
      → AreEditsSaid folder program edits (session_text said last left sources)

session_behind : (first said : RunOutput) (last : Core) (edits : List Edit) (sources : List Source)
    → session_text (with_behind first said) last edits sources
    ≡ with_behind first (session_text said last edits sources)
session_behind first said last [] sources = refl
session_behind first said last (edit ∷ edits) [] = refl
session_behind first said last (edit ∷ edits) (source ∷ sources) =
    let rest = session_text (edit_said last edit source) (program_behind last source) edits sources in
    λ i. record { status = rest.status; text = append_assoc first.text said.text rest.text i }

goes_all : (folder : Files) (program : Core) (edits : List Edit) (last : Core) (kept : SourceFiles) (said : RunOutput)
    → last ≡ program → said ≡ said_from plain_mode (Accepted last) → AreKept folder kept
    → GoesOn folder program edits edits last kept said
goes_all folder program edits last kept said same is are =
    record {
      now = folder;
      kept_are = are;
      rest = λ sources made. (
        sources,
        subst (λ (p : Core). AreSources folder folder p edits sources) same made,
        ap (λ (s : RunOutput). session_text s last edits sources)
            (is ∙ ap (λ (p : Core). said_from plain_mode (Accepted p)) same)
            ∙ ap (λ (p : Core). session_text (said_from plain_mode (Accepted program)) p edits sources) same,
      );
    }

goes_one : (folder : Files) (program : Core) (edits left : List Edit) (edit : Edit) (last next : Core)
    (old new : SourceFiles) (said part : RunOutput) (before : GoesOn folder program edits (edit ∷ left) last old said)
    → IsStepSaid folder before.now last edit next new part
    → GoesOn folder program edits left next new (with_behind said part)
goes_one folder program edits left edit last next old new said part before step =
    record {
      now = edited folder before.now edit;
      kept_are = step.kept_are;
      rest = λ sources made.
          let here : AreSources folder (edited folder before.now edit) (program_behind last step.source) left sources =
          subst (λ (p : Core). AreSources folder (edited folder before.now edit) p left sources) step.next_is made in
          let text : with_behind said
          (session_text (edit_said last edit step.source) (program_behind last step.source) left sources)
          ≡ session_text (with_behind said part) next left sources =
          ap (λ (p : Core). with_behind said (session_text (edit_said last edit step.source) p left sources))
          (sym step.next_is)
          ∙ ap (λ (s : RunOutput). with_behind said (session_text s next left sources)) (sym step.said_so)
          ∙ sym (session_behind said part next left sources) in
          subst (λ (s : RunOutput). AreEditsSaid folder program edits s) text
          (before.rest (step.source ∷ sources) (step.step, here));
    }

-- of a folder that tells its files, where those are kept in the beginning
abbrev pub GoesFrom : Option Told → Core → List EditLine → ℕ → SourceFiles → Core → SourceFiles → RunOutput → Type 0
GoesFrom o program edits i first last kept said =
    IfSome o (λ (t : Told). AreKept t.files first
    → GoesOn t.files program (map seen edits) (map seen (drop i edits)) last kept said)

pub goes_init : (o : Option Told) (program : Core) (edits : List EditLine) (last : Core) (kept : SourceFiles)
    (said : RunOutput) → last ≡ program → said ≡ said_from plain_mode (Accepted last)
    → GoesFrom o program edits 0 kept last kept said
goes_init None program edits last kept said same is = tt
goes_init (Some t) program edits last kept said same is =
    λ are. goes_all t.files program (map seen edits) last kept said same is are

goes_there : (t : Told) (program : Core) (edits : List EditLine) (i : ℕ) (d : EditLine) (first old new : SourceFiles)
    (last next : Core) (said part both : RunOutput) → i < length edits
    → GoesFrom (Some t) program edits i first last old said
    → ((now : Files) → AreKept now old → IsStepSaid t.files now last (seen (get_or edits i d)) next new part)
    → both ≡ with_behind said part → GoesFrom (Some t) program edits (i + 1) first next new both
goes_there t program edits i d first old new last next said part both h before step is =
    λ are.
    let left = map seen (drop (i + 1) edits) in
    let here : GoesOn t.files program (map seen edits) (seen (get_or edits i d) ∷ left) last old said =
    subst (λ (es : List EditLine). GoesOn t.files program (map seen edits) (map seen es) last old said)
    (drop_more edits i d h) (before are) in
    subst (λ (s : RunOutput). GoesOn t.files program (map seen edits) left next new s) (sym is)
    (goes_one t.files program (map seen edits) left (seen (get_or edits i d)) last next old new said part here
    (step here.now here.kept_are))

-- the folder tells at this edit what it told in the beginning
pub goes_more : (o now : Option Told) (program : Core) (edits : List EditLine) (i : ℕ) (d : EditLine)
    (first old new : SourceFiles) (last next : Core) (said part both : RunOutput) → now ≡ o → i < length edits
    → GoesFrom o program edits i first last old said
    → IfSome now (λ (t : Told). (files : Files) → AreKept files old
    → IsStepSaid t.files files last (seen (get_or edits i d)) next new part)
    → both ≡ with_behind said part → GoesFrom o program edits (i + 1) first next new both
goes_more None now program edits i d first old new last next said part both same h before step is = tt
goes_more (Some t) now program edits i d first old new last next said part both same h before step is =
    goes_there t program edits i d first old new last next said part both h before
    (subst (λ (o : Option Told). IfSome o (λ (u : Told). (files : Files) → AreKept files old
    → IsStepSaid u.files files last (seen (get_or edits i d)) next new part)) same step) is

pub goes_said : (o : Option Told) (program : Core) (edits : List EditLine) (i : ℕ) (first kept : SourceFiles)
    (last : Core) (said : RunOutput) → drop i edits ≡ [] → GoesFrom o program edits i first last kept said
    → IfSome o (λ (t : Told). AreKept t.files first → AreEditsSaid t.files program (map seen edits) said)
goes_said None program edits i first kept last said none goes = tt
goes_said (Some t) program edits i first kept last said none goes =
    λ are.
    let here : GoesOn t.files program (map seen edits) [] last kept said =
    subst (λ (es : List EditLine). GoesOn t.files program (map seen edits) (map seen es) last kept said) none
    (goes are) in
    here.rest [] tt

-- ---- what the edits name

pub still_named : (old now : SourceFiles) (edits : List EditLine) (i : ℕ) (d : EditLine) → now.names ≡ old.names
    → i < length edits → AreSourcesOf edits old → IsSourceOf now (get_or edits i d)
still_named old now edits i d same h are =
    subst (λ (ns : Vec (String Global) Global).
    list_any (same_name (get_or edits i d).file.now) (map string_bytes ns.items) ≡ true) (sym same) (are i d h)

seen_there : (files : Files) (edits : List EditLine) (i : ℕ) (d : EditLine) → i < length edits
    → AreAllThere files (map seen edits) → IsThere files (seen (get_or edits i d))
seen_there files [] i d h are = absurd (let bad : i < 0 = h in omega arith)
seen_there files (edit ∷ edits) zero d h are = All-head (IsThere files) (seen edit) (map seen edits) are
seen_there files (edit ∷ edits) (suc i) d h are =
    seen_there files edits i d (omega arith) (All-tail (IsThere files) (seen edit) (map seen edits) are)

-- what `?` gives is the same fault
pub same_fault : {T : Type 0} (r : Result T FolderFault) (fault : FolderFault) → IsErrAnd r (λ given. given ≡ fault)
    → fault ≡ Memory → FailsByMemory r
same_fault (Ok x) fault given is = tt
same_fault (Err e) fault given is = given ∙ is

-- the folder tells at this edit what it told in the beginning
pub steady_step : (o now : Option Told) (edits : List EditLine) (i : ℕ) (d : EditLine) (P Q : Type 0) → now ≡ o
    → i < length edits → (P → Q) → IfSome now (λ (t : Told). IsThere t.files (seen (get_or edits i d)) → P)
    → IfSome o (λ (t : Told). AreAllThere t.files (map seen edits) → Q)
steady_step None now edits i d P Q same h leads fails = tt
steady_step (Some t) now edits i d P Q same h leads fails =
    λ are.
    let here =
    subst (λ (o : Option Told). IfSome o (λ (u : Told). IsThere u.files (seen (get_or edits i d)) → P)) same fails in
    leads (here (seen_there t.files edits i d h are))
