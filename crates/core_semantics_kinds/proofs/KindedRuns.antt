-- Over any kinds: each state of a run from two entries keeps the invariant, and a run is stuck only where the kinds
-- allow it.
use Rattle.std.proofs.Common.{◌≡◌, ℕ, zero, suc, true, false, cond, List, [], ◌∷◌, Option, None, Some}
use Rattle.std.proofs.Common.{nat_eq, sym, subst}
use Rattle.std.specs.Option.{option_and_then}
use Rattle.racer_base.specs.declared.ids.MethodId.{MethodId}
use Rattle.core_code.specs.Calls.{method_at}
use Rattle.core_code.specs.Core.{Core, Method}
use Rattle.core_semantics.specs.declared.answer.Turn.{Turn}
use Rattle.core_semantics.specs.declared.answer.Turn.TheVariants.{Right}
use Rattle.core_semantics.specs.declared.object.Start.{Start}
use Rattle.core_semantics.specs.Legs.{Leg, NoTurn, Ran, Came, Halted, one_step_more, run, runs, went, whole}
use Rattle.core_semantics.specs.Runs.{begun, given_to, is_in, thread_at, wants_turn}
use Rattle.core_semantics.specs.State.{State, Store, Thread, other_of, thread_of, with_thread}
use Rattle.core_semantics.specs.Steps.{After, Next, Goes, Sticks, Waits, Ends, entered, step, thread_step, within}
use Rattle.core_semantics_kinds.specs.Kinding.{AreFrames, StepKeeps, IsCode, IsKept, IsState, Keeps, Kinding, RanTo}
use Rattle.core_semantics_kinds.proofs.KindedCode.{before-does}
use Rattle.core_semantics_kinds.proofs.KindedSteps.{frames-kept}

module _ {core : Core} (k : Kinding core) where
  pub thread-frames : (s : State) (t : ℕ) → IsState core k s → AreFrames core k (thread_of s t).frames
  thread-frames s t is =
      elim (nat_eq t 0) as (λ b. AreFrames core k (cond b s.first s.second).frames) [
        | true ↦ is.first
        | false ↦ is.second
      ]

  -- ---- the beginning

  abbrev thread_with : ℕ → Option Method → Thread
  thread_with t o =
      elim o [
        | None ↦ record { frames = []; locks = [] }
        | Some x ↦ record { frames = entered x (given_to t x) ∷ []; locks = [] }
      ]

  thread-begins : (t : ℕ) (m : MethodId) (method : Method) → method_at core m ≡ Some method → IsCode core k method →
      k.IsSo method (k.at_entry method) (entered method (given_to t method)).vars [] →
      AreFrames core k (thread_at core t m).frames
  thread-begins t m method there code so =
      subst (λ (o : Option Method). AreFrames core k (thread_with t o).frames) (sym there) (
        record {
          method = method;
          known = k.at_entry method;
          so = so;
          todo = before-does k method method.code [] (k.at_entry method) code.ends code.leads tt;
        },
        tt,
      )

  pub begun-state : (m1 m2 : MethodId) (f g : Method) (start : Start) → method_at core m1 ≡ Some f →
      method_at core m2 ≡ Some g → IsCode core k f → IsCode core k g →
      k.IsStored (let s : Store = record { heap = is_in start; cells = λ o x. None; fresh = 0 } in s) →
      k.IsSo f (k.at_entry f) (entered f (given_to 0 f)).vars [] →
      k.IsSo g (k.at_entry g) (entered g (given_to 1 g)).vars [] → IsState core k (begun core m1 m2 start)
  begun-state m1 m2 f g start is_f is_g code_f code_g stored so_f so_g =
      record {
        stored = stored;
        first = thread-begins 0 m1 f is_f code_f so_f;
        second = thread-begins 1 m2 g is_g code_g so_g;
      }

-- ---- steps and runs

module _ {core : Core} {k : Kinding core} (keeps : Keeps core k) where
  with-kept : (s : State) (t : ℕ) (next : Next After) → IsState core k s → StepKeeps core k (IsKept core k) next →
      StepKeeps core k (IsState core k) (within (λ (a : After). with_thread s t a.store a.thread) next)
  with-kept s t (Goes a) is h =
      elim (nat_eq t 0) as (λ b. IsState core k (cond b
      (let x : State = record { store = a.store; first = a.thread; second = s.second } in x)
      (let x : State = record { store = a.store; first = s.first; second = a.thread } in x))) [
        | true ↦ record { stored = h.stored; first = h.frames; second = is.second }
        | false ↦ record { stored = h.stored; first = is.first; second = h.frames }
      ]
  with-kept s t (Sticks why) is h = h
  with-kept s t (Waits monitor) is h = tt
  with-kept s t Ends is h = tt

  pub step-kept : (s : State) (t : ℕ) (turn : Turn) → IsState core k s →
      StepKeeps core k (IsState core k) (step core s t turn)
  step-kept s t turn is =
      with-kept s t (thread_step core turn (other_of s t).locks s.store (thread_of s t)) is
      (frames-kept keeps turn (other_of s t).locks s.store (thread_of s t).frames (thread_of s t).locks is.stored
      (thread-frames k s t is))

  abbrev RunKept : ℕ → ℕ → Type 0
  RunKept t n = (turns : List Turn) (s : State) → IsState core k s → RanTo core k (runs core t n turns s)

  later-kept : (r : Ran) → RanTo core k r → RanTo core k (one_step_more r)
  later-kept (Came to left) h = h
  later-kept (Halted halt at steps) h = h

  went-kept : (t n : ℕ) (turns : List Turn) (s : State) (next : Next State) → RunKept t n → IsState core k s →
      StepKeeps core k (IsState core k) next → RanTo core k (went (runs core t n turns) s next)
  went-kept t n turns s (Goes x) ih is h = later-kept (runs core t n turns x) (ih turns x h)
  went-kept t n turns s (Sticks why) ih is h = (h, is)
  went-kept t n turns s (Waits monitor) ih is h = (tt, is)
  went-kept t n turns s Ends ih is h = (tt, is)

  taking-kept : (t n : ℕ) (turns : List Turn) (s : State) → RunKept t n → IsState core k s →
      RanTo core k (elim turns as (λ _. Ran) [
        | [] ↦ Halted NoTurn s 0
        | ◌∷◌ turn rest ↦ went (runs core t n rest) s (step core s t turn)
      ])
  taking-kept t n [] s ih is = (tt, is)
  taking-kept t n (turn ∷ rest) s ih is = went-kept t n rest s (step core s t turn) ih is (step-kept s t turn is)

  pub run-kept : (t n : ℕ) → RunKept t n
  run-kept t zero = λ turns s is. is
  run-kept t (suc n) = λ turns s is.
      elim (wants_turn s t) as (λ b. RanTo core k (cond b
      (elim turns as (λ _. Ran) [
        | [] ↦ Halted NoTurn s 0
        | ◌∷◌ turn rest ↦ went (runs core t n rest) s (step core s t turn)
      ]) (went (runs core t n turns) s (step core s t Right)))) [
        | true ↦ taking-kept t n turns s (run-kept t n) is
        | false ↦ went-kept t n turns s (step core s t Right) (run-kept t n) is (step-kept s t Right is)
      ]

  -- ---- legs

  came-whole : (legs : List Leg) (to : State) (r : Ran) → RanTo core k r →
      option_and_then (run core legs) (whole r) ≡ Some to →
      ((x : State) → IsState core k x → run core legs x ≡ Some to → IsState core k to) → IsState core k to
  came-whole legs to (Came x []) h e on = on x h e
  came-whole legs to (Came x (turn ∷ turns)) h e on = absurd cc
  came-whole legs to (Halted halt at steps) h e on = absurd cc

  -- the state behind legs that are made whole
  pub legs-kept : (legs : List Leg) (s to : State) → IsState core k s → run core legs s ≡ Some to → IsState core k to
  legs-kept [] s to is e = let same : s ≡ to = cc in subst (λ (x : State). IsState core k x) same is
  legs-kept (leg ∷ legs) s to is e =
      came-whole legs to (runs core leg.thread leg.steps leg.turns s) (run-kept leg.thread leg.steps leg.turns s is) e
      (λ x h c. legs-kept legs x to h c)
