-- Where the sources of a folder are one thing, two runs on it in one mode write one report, and two runs with the same
-- words that ask for no history write the same bytes.
use Rattle.std.proofs.Common.{◌≡◌, ◌≢◌, ℕ, Bool, false, List, [], ◌++◌, Option, Some, refl, sym, ap, subst, ◌∙◌}
use Rattle.container_cells.specs.declared.cell.Containers.{Containers}
use Rattle.racer_base.specs.Outside.{Told, Files, taken_and}
use Rattle.racer_sources.specs.OneReading.{OneSource}
use Rattle.racer_sources.specs.Programs.{Source, IsSource, Refusal, Accepted}
use Rattle.racer_run.specs.declared.output.RunOutput.{RunOutput}
use Rattle.racer_run.specs.declared.status.Status.{Status}
use Rattle.racer_run.specs.declared.status.Status.TheVariants.{Memory}
use Rattle.racer_words.specs.Words.{WantedReport, Request, ReportOn, ReplayOf, MadeOf, EditsOf}
use Rattle.racer_words.specs.Words.{request_of}
use Rattle.racer_run.specs.RunOutputs.{IsBehind, IsTail, SaysReport, said_from, typings_behind}
use Rattle.racer_run.specs.Causes.{Invocation, Wrote, IsAnswer, IsCause, IsWhole, IsWholeAnswer}
use Rattle.racer_run.specs.Reports.{AsksNoHistory, WroteOneReport}
use Rattle.racer_run.proofs.OneSession.{edits_only}
use Rattle.racer_run.proofs.OneStatus.{Due, by_usage, by_fault, by_said, due_of, usage_due}
use Rattle.racer_run.proofs.OneStatus.{whole_answer, report_only, report_status, replay_only, made_only}
use Rattle.racer_run.proofs.OneStatus.{rose, Ending, whole, cut, ending_of}

-- an answer over a folder that tells this
pub at_folder : (request : Request) (tells : Option Told) (told : Told) (s : Status) (wrote : Wrote) → tells ≡ Some told
    → IsWholeAnswer request tells s wrote → IsWholeAnswer request (Some told) s wrote
at_folder request tells told s wrote e h = subst (λ (o : Option Told). IsWholeAnswer request o s wrote) e h

-- whole answers to two who want a report in one mode
both_written : OneSource → (told : Told) (first second : WantedReport) (s t : Status) (v w : Wrote)
    → first.mode ≡ second.mode → first.containers ≡ second.containers
    → IsWholeAnswer (ReportOn first) (Some told) s v → IsWholeAnswer (ReportOn second) (Some told) t w
    → (s ≡ t) × WroteOneReport told.files first second v w
both_written one told first second s t v w mode containers f g =
    let a : SaysReport first told.files f.said = f.says in
    let b : SaysReport second told.files g.said = g.says in
    let same = report_only one told.files first second f.said g.said mode containers a b in
    let is : IsSource second.containers told.files a.source =
    subst (λ (c : Containers). IsSource c told.files a.source) containers a.is in
    let sources : a.source ≡ b.source = one second.containers told.files a.source b.source is b.is in (
      f.gives ∙ report_status one told.files first second f.said g.said mode containers a b ∙ sym g.gives,
      record {
        source = a.source;
        is = a.is;
        report = (said_from first.mode a.source).text;
        report_is = refl;
        wrote_first = record {
          tail = a.tail;
          is_behind = a.is_behind;
          taken = f.whole.taken ∙ ap (λ (said : RunOutput). taken_and v.taken_before said.text) a.said_so;
        };
        wrote_second = record {
          tail = b.tail;
          is_behind = subst (λ (source : Source). IsBehind second source b.tail) (sym sources) b.is_behind;
          taken = g.whole.taken
              ∙ ap (λ (said : RunOutput). taken_and w.taken_before said.text) b.said_so
              ∙ (λ i. taken_and w.taken_before
              (((sym same i).text ++ typings_behind second.typed (sym sources i)) ++ b.tail));
        };
      },
    )

pub whole_of : (s : Status) (asked : Invocation) (wrote : Wrote) → wrote.after ≡ wrote.before → Ending s asked wrote
    → IsAnswer s asked wrote
whole_of s asked wrote kept (whole f) = f
whole_of s asked wrote kept (cut e g) = absurd (rose _ _ g.front.fault kept)

pub same_report : OneSource → (s t : Status) (a b : Invocation) (v w : Wrote) (told : Told)
    (first second : WantedReport)
    → request_of a.words ≡ Some (ReportOn first) → request_of b.words ≡ Some (ReportOn second)
    → first.folder ≡ second.folder → first.mode ≡ second.mode → first.containers ≡ second.containers
    → a.told ≡ Some told → b.told ≡ Some told → a.after ≡ a.before → b.after ≡ b.before
    → v.after ≡ v.before → w.after ≡ w.before → s ≢ Memory → t ≢ Memory
    → IsCause s a v → IsCause t b w → (s ≡ t) × WroteOneReport told.files first second v w
same_report one s t a b v w told first second asks_a asks_b folder mode containers tells_a tells_b quiet_a quiet_b
    kept_v kept_w m n f g =
    let x = whole_of s a v kept_v (ending_of s a v m f) in
    let y = whole_of t b w kept_w (ending_of t b w n g) in
    both_written one told first second s t v w mode containers
    (at_folder (ReportOn first) a.told told s v tells_a
    (whole_answer s a v x.text x.due x.whole (ReportOn first) asks_a quiet_a))
    (at_folder (ReportOn second) b.told told t w tells_b
    (whole_answer t b w y.text y.due y.whole (ReportOn second) asks_b quiet_b))

pub nothing_behind : (wanted : WantedReport) (source : Source) (tail : List ℕ) → wanted.history ≡ false
    → IsBehind wanted source tail → tail ≡ []
nothing_behind wanted (Refusal line) tail none h = h
nothing_behind wanted (Accepted program) tail none h =
    subst (λ (history : Bool). IsTail history wanted.workers program tail) none h

-- one report without a history
report_bytes : (files : Files) (wanted : WantedReport) (v w : Wrote) → wanted.history ≡ false
    → v.taken_before ≡ w.taken_before → WroteOneReport files wanted wanted v w → v.taken_after ≡ w.taken_after
report_bytes files wanted v w none before h =
    let x = h.wrote_first in
    let y = h.wrote_second in
    let tails : x.tail ≡ y.tail =
    nothing_behind wanted h.source x.tail none x.is_behind
    ∙ sym (nothing_behind wanted h.source y.tail none y.is_behind) in
    x.taken
    ∙ (λ i. taken_and (before i) ((h.report ++ typings_behind wanted.typed h.source) ++ tails i))
    ∙ sym y.taken

-- one text
text_bytes : (v w : Wrote) (x y : List ℕ) → v.taken_before ≡ w.taken_before → IsWhole v x → IsWhole w y → x ≡ y
    → v.taken_after ≡ w.taken_after
text_bytes v w x y before f g same = f.taken ∙ (λ i. taken_and (before i) (same i)) ∙ sym g.taken

-- one answer, whole in both
one_answer : (request : Request) (tells : Option Told) (s t : Status) (v w : Wrote)
    → v.taken_before ≡ w.taken_before → (f : IsWholeAnswer request tells s v) (g : IsWholeAnswer request tells t w)
    → f.said ≡ g.said → (s ≡ t) × (v.taken_after ≡ w.taken_after)
one_answer request tells s t v w before f g same = (
  f.gives ∙ ap (λ (said : RunOutput). said.status) same ∙ sym g.gives,
  text_bytes v w f.said.text g.said.text before f.whole g.whole (ap (λ (said : RunOutput). said.text) same),
)

-- whole answers to one request that asks for no history
request_bytes : OneSource → (request : Request) (told : Told) (s t : Status) (v w : Wrote)
    → v.taken_before ≡ w.taken_before → IsWholeAnswer request (Some told) s v → IsWholeAnswer request (Some told) t w
    → (s ≡ t) × (((wanted : WantedReport) → request ≡ ReportOn wanted → wanted.history ≡ false)
    → v.taken_after ≡ w.taken_after)
request_bytes one (ReportOn wanted) told s t v w before f g =
    let both = both_written one told wanted wanted s t v w refl refl f g in
    (both.0, (λ none. report_bytes told.files wanted v w (none wanted refl) before both.1))
request_bytes one (ReplayOf wanted) told s t v w before f g =
    let both = one_answer (ReplayOf wanted) (Some told) s t v w before f g
    (replay_only one told.files wanted f.said g.said f.says g.says) in
    (both.0, (λ none. both.1))
request_bytes one (MadeOf wanted) told s t v w before f g =
    let both = one_answer (MadeOf wanted) (Some told) s t v w before f g
    (made_only one wanted f.said g.said f.says g.says) in
    (both.0, (λ none. both.1))
request_bytes one (EditsOf wanted) told s t v w before f g =
    let both = one_answer (EditsOf wanted) (Some told) s t v w before f g
    (edits_only one told.files wanted f.said g.said f.says g.says) in
    (both.0, (λ none. both.1))

answers_bytes : OneSource → (s t : Status) (a b : Invocation) (v w : Wrote) (told : Told) → a.words ≡ b.words
    → a.told ≡ Some told → b.told ≡ Some told → a.after ≡ a.before → b.after ≡ b.before
    → v.taken_before ≡ w.taken_before → (f : IsAnswer s a v) (g : IsAnswer t b w) → Due s a f.text
    → (s ≡ t) × (AsksNoHistory a.words → v.taken_after ≡ w.taken_after)
answers_bytes one s t a b v w told words tells_a tells_b quiet_a quiet_b before f g (by_usage e u) =
    let due = usage_due t b g.text (ap request_of (sym words) ∙ u.nothing) (due_of t b g.text g.due) in
    (e ∙ sym due.0, (λ none. text_bytes v w f.text g.text before f.whole g.whole (u.line ∙ sym due.1)))
answers_bytes one s t a b v w told words tells_a tells_b quiet_a quiet_b before f g (by_fault e u) =
    absurd (rose _ _ u.fault quiet_a)
answers_bytes one s t a b v w told words tells_a tells_b quiet_a quiet_b before f g (by_said u) =
    let both = request_bytes one u.request told s t v w before
    (at_folder u.request a.told told s v tells_a (whole_answer s a v f.text f.due f.whole u.request u.asks quiet_a))
    (at_folder u.request b.told told t w tells_b
    (whole_answer t b w g.text g.due g.whole u.request (ap request_of (sym words) ∙ u.asks) quiet_b)) in
    (both.0, (λ none. both.1 (λ wanted is. none wanted (u.asks ∙ ap Some is))))

pub same_bytes : OneSource → (s t : Status) (a b : Invocation) (v w : Wrote) (told : Told) → a.words ≡ b.words
    → a.told ≡ Some told → b.told ≡ Some told → a.after ≡ a.before → b.after ≡ b.before
    → v.taken_before ≡ w.taken_before → v.after ≡ v.before → w.after ≡ w.before → s ≢ Memory → t ≢ Memory
    → IsCause s a v → IsCause t b w
    → (s ≡ t) × (AsksNoHistory a.words → v.taken_after ≡ w.taken_after)
    × ((wanted : WantedReport) → request_of a.words ≡ Some (ReportOn wanted)
    → WroteOneReport told.files wanted wanted v w)
same_bytes one s t a b v w told words tells_a tells_b quiet_a quiet_b before kept_v kept_w m n f g =
    let x = whole_of s a v kept_v (ending_of s a v m f) in
    let y = whole_of t b w kept_w (ending_of t b w n g) in
    let due = due_of s a x.text x.due in
    let both = answers_bytes one s t a b v w told words tells_a tells_b quiet_a quiet_b before x y due in
    let requests : request_of b.words ≡ request_of a.words = ap request_of (sym words) in (
      both.0,
      both.1,
      (λ wanted asks.
          (same_report one s t a b v w told wanted wanted asks (requests ∙ asks) refl refl refl tells_a tells_b
          quiet_a quiet_b kept_v kept_w m n f g).1),
    )
