-- What is said of a program, with the lines of a history behind it where they are asked for.
use Rattle.std.proofs.Common.{◌≡◌, ℕ, Bool, true, false, List, [], ◌++◌, Result, Ok, Err, refl}
use Rattle.std.proofs.Common.{sym, ap, subst, append-nil}
use Rattle.std.specs.Prelude.{IfOk}
use Rattle.core_code.specs.Core.{Core}
use Rattle.racer_sources.specs.Programs.{Accepted}
use Rattle.summary_store.specs.declared.machine.Event.{Event}
use Rattle.summary_store.specs.Machine.{Legal, IsComplete}
use Rattle.summary_store.specs.Setups.{setup_of}
use Rattle.racer_run_history.specs.History.{history_text}
use Rattle.racer_run.specs.declared.output.RunOutput.{RunOutput}
use Rattle.racer_run_typings.specs.Lines.{typings_text}
use Rattle.racer_run.specs.RunOutputs.{said_with, typings_behind, with_tail, IsTail}
use Rattle.racer_run.specs.Tails.{lines_of, IsSaidWith}
use Rattle.racer_words.specs.Words.{WantedReport}

-- nothing stands behind
pub no_tail : (said : RunOutput) → said ≡ with_tail said []
no_tail said = λ i. record { status = said.status; text = sym (append-nil said.text) i }

-- the lines of the classes stand behind
pub typed_behind : (asked : Bool) (said : RunOutput) (program : Core) (text : List ℕ) → asked ≡ true
    → text ≡ said.text ++ typings_text program
    → ◌≡◌ {A = RunOutput} (record { status = said.status; text = text })
    (with_tail said (typings_behind asked (Accepted program)))
typed_behind true said program text e is = λ i. record { status = said.status; text = is i }
typed_behind false said program text e is = cc

-- the lines of a history stand behind
pub behind : (asked : Bool) (said : RunOutput) (program : Core) (history : List Event) (text : List ℕ) → asked ≡ true
    → text ≡ said.text ++ history_text program history
    → ◌≡◌ {A = RunOutput} (record { status = said.status; text = text })
    (with_tail said (lines_of asked program history))
behind true said program history text e is = λ i. record { status = said.status; text = is i }
behind false said program history text e is = cc

tail_is : (asked : Bool) (workers : ℕ) (program : Core) (history : List Event)
    → Legal (setup_of program workers) history → IsComplete (setup_of program workers) history
    → IsTail asked workers program (lines_of asked program history)
tail_is false workers program history legal complete = refl
tail_is true workers program history legal complete =
    record { history = history; legal = legal; complete = complete; lines_are = refl }

pub if_ok : {A E : Type 0} (r : Result A E) (x : A) (P : A → Type 0) → P x → IfOk r (λ y. y ≡ x) → IfOk r P
if_ok (Ok y) x P h e = subst P (sym e) h
if_ok (Err e) x P h tt = tt

pub with_lines : {E : Type 0} (r : Result RunOutput E) (program : Core) (wanted : WantedReport) (said : RunOutput)
    (history : List Event) → said ≡ said_with wanted (Accepted program)
    → Legal (setup_of program wanted.workers) history
    → IsComplete (setup_of program wanted.workers) history
    → IfOk r (λ new. new ≡ with_tail said (lines_of wanted.history program history))
    → IfOk r (λ new. IsSaidWith wanted (Accepted program) new)
with_lines r program wanted said history is legal complete =
    let tail = lines_of wanted.history program history in
    if_ok r (with_tail said tail) (IsSaidWith wanted (Accepted program)) (record {
      tail = tail;
      is_behind = tail_is wanted.history wanted.workers program history legal complete;
      said_so = ap (λ s. with_tail s tail) is;
    })
