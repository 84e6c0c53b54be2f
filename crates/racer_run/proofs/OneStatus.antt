-- Where the sources of a folder are one thing, no two statuses have their cause in one call.
use Rattle.std.proofs.Common.{◌≡◌, ◌≢◌, ℕ, ◌<◌, Bool, true, false, List, Option, None, Some, refl}
use Rattle.std.proofs.Common.{sym, ap, subst, ◌∙◌, arith}
use Rattle.std.specs.Option.{IfSome}
use Rattle.core_code.specs.Core.{Core}
use Rattle.container_cells.specs.declared.cell.Containers.{Containers}
use Rattle.container_cells.specs.declared.cell.Containers.TheVariants.{Opaque}
use Rattle.racer_base.specs.Outside.{Told, Files}
use Rattle.race_report_modes.specs.declared.Mode.{Mode}
use Rattle.racer_sources.specs.OneReading.{OneSource}
use Rattle.racer_sources.specs.Programs.{Source, IsSource, Refusal, Accepted}
use Rattle.racer_run.specs.declared.output.RunOutput.{RunOutput}
use Rattle.racer_run.specs.declared.status.Status.{Status}
use Rattle.racer_run.specs.declared.status.Status.TheVariants.{Clean, Warned, Usage, FolderFault, SinkFault, Refused}
use Rattle.racer_run.specs.declared.status.Status.TheVariants.{Memory, NoRace, NotAWitness, NotEdits}
use Rattle.racer_words.specs.Words.{WantedReport, WantedReplay, WantedMade, Request, ReportOn, ReplayOf, MadeOf}
use Rattle.racer_words.specs.Words.{EditsOf, request_of}
use Rattle.racer_run.specs.RunOutputs.{SaysReport, said_from, usage_text}
use Rattle.racer_run.specs.Replays.{IsReplaySaid, SaysReplay, replay_said}
use Rattle.racer_run.specs.Made.{SaysMade, made_files, made_said}
use Rattle.racer_run.specs.Causes.{Invocation, Wrote, IsUsage, IsFault, IsSaid, IsDue, IsAnswer, IsCut, IsCause, Says}
use Rattle.racer_run.specs.Causes.{is_said_to, IsWhole, IsWholeAnswer}
use Rattle.racer_run.proofs.OneSession.{edits_only}

-- ---- what is said to a request is due

no_usage : (r : Request) → is_said_to r Usage ≡ true → ⊥
no_usage (ReportOn wanted) e = let bad : ◌≡◌ {A = Bool} false true = e in cc
no_usage (ReplayOf wanted) e = let bad : ◌≡◌ {A = Bool} false true = e in cc
no_usage (MadeOf wanted) e = let bad : ◌≡◌ {A = Bool} false true = e in cc
no_usage (EditsOf wanted) e = let bad : ◌≡◌ {A = Bool} false true = e in cc

no_fault : (r : Request) → is_said_to r FolderFault ≡ true → ⊥
no_fault (ReportOn wanted) e = let bad : ◌≡◌ {A = Bool} false true = e in cc
no_fault (ReplayOf wanted) e = let bad : ◌≡◌ {A = Bool} false true = e in cc
no_fault (MadeOf wanted) e = let bad : ◌≡◌ {A = Bool} false true = e in cc
no_fault (EditsOf wanted) e = let bad : ◌≡◌ {A = Bool} false true = e in cc

no_sink : (r : Request) → is_said_to r SinkFault ≡ true → ⊥
no_sink (ReportOn wanted) e = let bad : ◌≡◌ {A = Bool} false true = e in cc
no_sink (ReplayOf wanted) e = let bad : ◌≡◌ {A = Bool} false true = e in cc
no_sink (MadeOf wanted) e = let bad : ◌≡◌ {A = Bool} false true = e in cc
no_sink (EditsOf wanted) e = let bad : ◌≡◌ {A = Bool} false true = e in cc

no_memory : (r : Request) → is_said_to r Memory ≡ true → ⊥
no_memory (ReportOn wanted) e = let bad : ◌≡◌ {A = Bool} false true = e in cc
no_memory (ReplayOf wanted) e = let bad : ◌≡◌ {A = Bool} false true = e in cc
no_memory (MadeOf wanted) e = let bad : ◌≡◌ {A = Bool} false true = e in cc
no_memory (EditsOf wanted) e = let bad : ◌≡◌ {A = Bool} false true = e in cc

pub said_due : (s : Status) (asked : Invocation) (text : List ℕ) → IsSaid s asked text → IsDue s asked text
said_due Clean asked text h = h
said_due Warned asked text h = h
said_due Refused asked text h = h
said_due NoRace asked text h = h
said_due NotAWitness asked text h = h
said_due NotEdits asked text h = h
said_due Usage asked text h = absurd (no_usage h.request h.fits)
said_due FolderFault asked text h = absurd (no_fault h.request h.fits)
said_due SinkFault asked text h = absurd (no_sink h.request h.fits)
said_due Memory asked text h = absurd (no_memory h.request h.fits)

-- a text that is due is the usage line, the line of a fault, or what is said to a request
pub data Due (s : Status) (asked : Invocation) (text : List ℕ) : Type 0 where
  by_usage : s ≡ Usage → IsUsage asked text → Due s asked text
  by_fault : s ≡ FolderFault → IsFault asked text → Due s asked text
  by_said : IsSaid s asked text → Due s asked text

pub due_of : (s : Status) (asked : Invocation) (text : List ℕ) → IsDue s asked text → Due s asked text
due_of Clean asked text h = by_said h
due_of Warned asked text h = by_said h
due_of Usage asked text h = by_usage refl h
due_of FolderFault asked text h = by_fault refl h
due_of Refused asked text h = by_said h
due_of NoRace asked text h = by_said h
due_of NotAWitness asked text h = by_said h
due_of NotEdits asked text h = by_said h
due_of SinkFault asked text h = absurd h
due_of Memory asked text h = absurd h

pub at_told : (P : Told → Type 0) (o : Option Told) (t : Told) → o ≡ Some t → IfSome o P → P t
at_told P o t e h = let F : Option Told → Type 0 = λ v. IfSome v P in subst F e h

asks_nothing : (o : Option Request) (r : Request) → o ≡ None → o ≡ Some r → ⊥
asks_nothing o r e f = let bad : ◌≡◌ {A = Option Request} None (Some r) = sym e ∙ f in cc

same_request : (r q : Request) → ◌≡◌ {A = Option Request} (Some r) (Some q) → r ≡ q
same_request r q e = cc

pub rose : (a b : ℕ) → a < b → b ≡ a → ⊥
rose a b h e = omega arith

-- ---- what is due, by what the words ask for

pub usage_due : (s : Status) (asked : Invocation) (text : List ℕ) → request_of asked.words ≡ None → Due s asked text
    → (s ≡ Usage) × (text ≡ usage_text)
usage_due s asked text none (by_usage e u) = (e, u.line)
usage_due s asked text none (by_fault e u) = absurd (asks_nothing _ _ none u.asks)
usage_due s asked text none (by_said u) = absurd (asks_nothing _ _ none u.asks)

fault_due : (s : Status) (asked : Invocation) (text : List ℕ) → asked.before < asked.after → Due s asked text
    → s ≡ FolderFault
fault_due s asked text fault (by_usage e u) = absurd (rose _ _ fault u.no_fault)
fault_due s asked text fault (by_fault e u) = e
fault_due s asked text fault (by_said u) = absurd (rose _ _ fault u.no_fault)

says_due : (s : Status) (asked : Invocation) (text : List ℕ) (request : Request) → request_of asked.words ≡ Some request
    → asked.after ≡ asked.before → Due s asked text
    → Says request asked.told (record { status = s; text = text })
says_due s asked text request asks quiet (by_usage e u) = absurd (asks_nothing _ _ u.nothing asks)
says_due s asked text request asks quiet (by_fault e u) = absurd (rose _ _ u.fault quiet)
says_due s asked text request asks quiet (by_said u) =
    let said : RunOutput = record { status = s; text = text } in
    subst (λ (r : Request). Says r asked.told said) (same_request u.request request (sym u.asks ∙ asks)) u.said

-- where the words make a request and the folder did not fail, what was written whole is what is said to it
pub whole_answer : (s : Status) (asked : Invocation) (wrote : Wrote) (text : List ℕ) → IsDue s asked text
    → IsWhole wrote text → (request : Request) → request_of asked.words ≡ Some request → asked.after ≡ asked.before
    → IsWholeAnswer request asked.told s wrote
whole_answer s asked wrote text due is_whole request asks quiet =
    record {
      said = record { status = s; text = text };
      says = says_due s asked text request asks quiet (due_of s asked text due);
      gives = refl;
      whole = is_whole;
    }

-- a text that is due and was written whole is the cause of its status
pub whole_cause : (s : Status) (asked : Invocation) (wrote : Wrote) (text : List ℕ) → IsDue s asked text
    → IsWhole wrote text → IsCause s asked wrote
whole_cause Clean asked wrote text due is_whole = record { text = text; due = due; whole = is_whole }
whole_cause Warned asked wrote text due is_whole = record { text = text; due = due; whole = is_whole }
whole_cause Usage asked wrote text due is_whole = record { text = text; due = due; whole = is_whole }
whole_cause FolderFault asked wrote text due is_whole = record { text = text; due = due; whole = is_whole }
whole_cause Refused asked wrote text due is_whole = record { text = text; due = due; whole = is_whole }
whole_cause NoRace asked wrote text due is_whole = record { text = text; due = due; whole = is_whole }
whole_cause NotAWitness asked wrote text due is_whole = record { text = text; due = due; whole = is_whole }
whole_cause NotEdits asked wrote text due is_whole = record { text = text; due = due; whole = is_whole }
whole_cause SinkFault asked wrote text due is_whole = absurd due
whole_cause Memory asked wrote text due is_whole = absurd due

-- ---- what is said of one folder in one mode is one, but for the history

pub report_only : OneSource → (files : Files) (first second : WantedReport) (a b : RunOutput) → first.mode ≡ second.mode
    → first.containers ≡ second.containers → (f : SaysReport first files a) (g : SaysReport second files b)
    → said_from first.mode f.source ≡ said_from second.mode g.source
report_only one files first second a b mode containers f g =
    ap (λ (m : Mode). said_from m f.source) mode
    ∙ ap (said_from second.mode) (one second.containers files f.source g.source
    (subst (λ (c : Containers). IsSource c files f.source) containers f.is) g.is)

pub report_status : OneSource → (files : Files) (first second : WantedReport) (a b : RunOutput)
    → first.mode ≡ second.mode → first.containers ≡ second.containers → SaysReport first files a
    → SaysReport second files b → a.status ≡ b.status
report_status one files first second a b mode containers f g =
    ap (λ (said : RunOutput). said.status) f.said_so
    ∙ ap (λ (said : RunOutput). said.status) (report_only one files first second a b mode containers f g)
    ∙ sym (ap (λ (said : RunOutput). said.status) g.said_so)

-- ---- what is said of one witness, and of one made folder, is one

same_replay : (wanted : WantedReplay) (files : Files) (source : Source) (a b : RunOutput)
    → IsReplaySaid wanted files source a → IsReplaySaid wanted files source b → a ≡ b
same_replay wanted files (Refusal line) a b f g = f ∙ sym g
same_replay wanted files (Accepted program) a b f g =
    let bytes : f.0 ≡ g.0 = let e : Some f.0 ≡ Some g.0 = sym f.1 ∙ g.1 in cc in
    f.2 ∙ ap (replay_said program) bytes ∙ sym g.2

pub replay_only : OneSource → (files : Files) (wanted : WantedReplay) (a b : RunOutput) → SaysReplay wanted files a
    → SaysReplay wanted files b → a ≡ b
replay_only one files wanted a b f g =
    same_replay wanted files g.source a b
    (subst (λ (source : Source). IsReplaySaid wanted files source a)
    (one wanted.containers files f.source g.source f.is g.is) f.said_so)
    g.said_so

same_program : (p q : Core) → Accepted p ≡ Accepted q → p ≡ q
same_program p q e = cc

pub made_only : OneSource → (wanted : WantedMade) (a b : RunOutput) → SaysMade wanted a → SaysMade wanted b → a ≡ b
made_only one wanted a b f g =
    f.said_so
    ∙ ap (made_said wanted.number) (same_program f.program g.program
    (one Opaque (made_files wanted.number) (Accepted f.program) (Accepted g.program) f.is g.is))
    ∙ sym g.said_so

status_only : OneSource → (request : Request) (told : Told) (a b : RunOutput) → Says request (Some told) a
    → Says request (Some told) b → a.status ≡ b.status
status_only one (ReportOn wanted) told a b f g = report_status one told.files wanted wanted a b refl refl f g
status_only one (ReplayOf wanted) told a b f g =
    ap (λ (said : RunOutput). said.status) (replay_only one told.files wanted a b f g)
status_only one (MadeOf wanted) told a b f g = ap (λ (said : RunOutput). said.status) (made_only one wanted a b f g)
status_only one (EditsOf wanted) told a b f g =
    ap (λ (said : RunOutput). said.status) (edits_only one told.files wanted a b f g)

due_status : OneSource → (s t : Status) (asked : Invocation) (told : Told) (x y : List ℕ) → asked.told ≡ Some told
    → Due s asked x → Due t asked y → s ≡ t
due_status one s t asked told x y tells (by_usage e u) g = e ∙ sym (usage_due t asked y u.nothing g).0
due_status one s t asked told x y tells (by_fault e u) g = e ∙ sym (fault_due t asked y u.fault g)
due_status one s t asked told x y tells (by_said u) g =
    let first : RunOutput = record { status = s; text = x } in
    let second : RunOutput = record { status = t; text = y } in
    status_only one u.request told first second
    (subst (λ (o : Option Told). Says u.request o first) tells u.said)
    (subst (λ (o : Option Told). Says u.request o second) tells (says_due t asked y u.request u.asks u.no_fault g))

-- ---- the end of a call: its whole answer, or a fault of the sink

pub data Ending (s : Status) (asked : Invocation) (wrote : Wrote) : Type 0 where
  whole : IsAnswer s asked wrote → Ending s asked wrote
  cut : s ≡ SinkFault → IsCut asked wrote → Ending s asked wrote

pub ending_of : (s : Status) (asked : Invocation) (wrote : Wrote) → s ≢ Memory → IsCause s asked wrote →
    Ending s asked wrote
ending_of Clean asked wrote n h = whole h
ending_of Warned asked wrote n h = whole h
ending_of Usage asked wrote n h = whole h
ending_of FolderFault asked wrote n h = whole h
ending_of SinkFault asked wrote n h = cut refl h
ending_of Refused asked wrote n h = whole h
ending_of Memory asked wrote n h = absurd (n refl)
ending_of NoRace asked wrote n h = whole h
ending_of NotAWitness asked wrote n h = whole h
ending_of NotEdits asked wrote n h = whole h

ending_only : OneSource → (s t : Status) (asked : Invocation) (wrote : Wrote) (told : Told) → asked.told ≡ Some told
    → Ending s asked wrote → Ending t asked wrote → s ≡ t
ending_only one s t asked wrote told e (whole f) (whole g) =
    due_status one s t asked told f.text g.text e (due_of s asked f.text f.due) (due_of t asked g.text g.due)
ending_only one s t asked wrote told e (whole f) (cut g h) = absurd (rose _ _ h.front.fault f.whole.no_fault)
ending_only one s t asked wrote told e (cut f h) (whole g) = absurd (rose _ _ h.front.fault g.whole.no_fault)
ending_only one s t asked wrote told e (cut f h) (cut g k) = f ∙ sym g

pub one_status : OneSource → (s t : Status) (asked : Invocation) (wrote : Wrote) (told : Told) (bytes : List ℕ)
    → asked.told ≡ Some told → wrote.taken_before ≡ Some bytes → s ≢ Memory → t ≢ Memory → IsCause s asked wrote
    → IsCause t asked wrote → s ≡ t
one_status one s t asked wrote told bytes e taken m n f g =
    ending_only one s t asked wrote told e (ending_of s asked wrote m f) (ending_of t asked wrote n g)
