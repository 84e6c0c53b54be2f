-- A thread beside one that holds no monitor is run as if it were alone.
use Rattle.std.proofs.Common.{◌≡◌, ℕ, zero, suc, true, false, cond, List, [], ◌∷◌, refl, sym, ap, subst, ◌∙◌}
use Rattle.std.proofs.Common.{nat_eq}
use Rattle.core_code.specs.Core.{Core}
use Rattle.core_semantics.specs.declared.answer.Holder.{Holder}
use Rattle.core_semantics.specs.declared.answer.Turn.{Turn}
use Rattle.core_semantics.specs.declared.answer.Turn.TheVariants.{Right}
use Rattle.core_semantics.specs.Legs.{Ran, Came as CameTo, Halted, NoTurn, one_step_more, runs, went}
use Rattle.core_semantics.specs.Runs.{wants_turn}
use Rattle.core_semantics.specs.State.{State, Thread, other_of, thread_of, with_thread}
use Rattle.core_semantics.specs.Steps.{After, Next, Goes, Sticks, Waits, Ends, step, thread_step, within}
use Rattle.core_ways.specs.Alone.{Alone, Came, Stuck, Broken, IsSeen, alone, onward, part_of}

whole : (s : State) (t : ℕ) → s ≡ with_thread s t s.store (thread_of s t)
whole s t =
    elim (nat_eq t 0) as (λ b. s ≡ cond b
    (let x : State = record { store = s.store; first = cond b s.first s.second; second = s.second } in x)
    (let y : State = record { store = s.store; first = s.first; second = cond b s.first s.second } in y)) [
      | true ↦ refl
      | false ↦ refl
    ]

part-again : (s : State) (t : ℕ) (a : After) → part_of (with_thread s t a.store a.thread) t ≡ a
part-again s t a =
    elim (nat_eq t 0) as (λ b.
    (let x : State = cond b
    (let u : State = record { store = a.store; first = a.thread; second = s.second } in u)
    (let v : State = record { store = a.store; first = s.first; second = a.thread } in v) in
    let y : After = record { store = x.store; thread = cond b x.first x.second } in y) ≡ a) [
      | true ↦ refl
      | false ↦ refl
    ]

pub other-stays : (s : State) (t : ℕ) (a : After) → other_of (with_thread s t a.store a.thread) t ≡ other_of s t
other-stays s t a =
    elim (nat_eq t 0) as (λ b.
    (let x : State = cond b
    (let u : State = record { store = a.store; first = a.thread; second = s.second } in u)
    (let v : State = record { store = a.store; first = s.first; second = a.thread } in v) in
    cond b x.second x.first) ≡ cond b s.second s.first) [
      | true ↦ refl
      | false ↦ refl
    ]

with-again : (s : State) (t : ℕ) (a b : After) →
    with_thread (with_thread s t a.store a.thread) t b.store b.thread ≡ with_thread s t b.store b.thread
with-again s t a b =
    elim (nat_eq t 0) as (λ c.
    (let x : State = cond c
    (let u : State = record { store = a.store; first = a.thread; second = s.second } in u)
    (let v : State = record { store = a.store; first = s.first; second = a.thread } in v) in
    cond c
    (let u : State = record { store = b.store; first = b.thread; second = x.second } in u)
    (let v : State = record { store = b.store; first = x.first; second = b.thread } in v)) ≡
    cond c
    (let u : State = record { store = b.store; first = b.thread; second = s.second } in u)
    (let v : State = record { store = b.store; first = s.first; second = b.thread } in v)) [
      | true ↦ refl
      | false ↦ refl
    ]

seen-later : (s : State) (t : ℕ) (a : After) (r : Alone) (q : Ran) →
    IsSeen (with_thread s t a.store a.thread) t r q → IsSeen s t r (one_step_more q)
seen-later s t a (Came b left) q seen =
    ap one_step_more seen ∙ ap (λ (x : State). CameTo x left) (with-again s t a b)
seen-later s t a (Stuck why) q seen = (seen.0, suc seen.1, ap one_step_more seen.2)
seen-later s t a Broken q seen = tt

module _ (core : Core) (t n : ℕ)
    (ih : (turns : List Turn) (s : State) → (other_of s t).locks ≡ [] →
    IsSeen s t (alone core n turns (part_of s t)) (runs core t n turns s)) where
  by-next : (s : State) (rest : List Turn) (next : Next After) → (other_of s t).locks ≡ [] →
      IsSeen s t (onward (alone core n rest) next)
      (went (runs core t n rest) s (within (λ (a : After). with_thread s t a.store a.thread) next))
  by-next s rest (Goes a) free =
      let w : State = with_thread s t a.store a.thread in
      let others : (other_of w t).locks ≡ [] = ap (λ (x : Thread). x.locks) (other-stays s t a) ∙ free in
      subst (λ (x : After). IsSeen s t (alone core n rest x) (one_step_more (runs core t n rest w))) (part-again s t a)
      (seen-later s t a (alone core n rest (part_of w t)) (runs core t n rest w) (ih rest w others))
  by-next s rest (Sticks why) free = (s, 0, refl)
  by-next s rest (Waits monitor) free = tt
  by-next s rest Ends free = tt

  stepped : (s : State) (turn : Turn) (rest : List Turn) → (other_of s t).locks ≡ [] →
      IsSeen s t (onward (alone core n rest) (thread_step core turn [] s.store (thread_of s t)))
      (went (runs core t n rest) s (step core s t turn))
  stepped s turn rest free =
      subst (λ (ls : List Holder).
      IsSeen s t (onward (alone core n rest) (thread_step core turn [] s.store (thread_of s t)))
      (went (runs core t n rest) s (within (λ (a : After). with_thread s t a.store a.thread)
      (thread_step core turn ls s.store (thread_of s t))))) (sym free)
      (by-next s rest (thread_step core turn [] s.store (thread_of s t)) free)

  one-more-step : (turns : List Turn) (s : State) → (other_of s t).locks ≡ [] →
      IsSeen s t (alone core (suc n) turns (part_of s t)) (runs core t (suc n) turns s)
  one-more-step turns s free =
      elim (wants_turn s t) as (λ b. IsSeen s t
      (cond b (elim turns as (λ _. Alone) [
        | [] ↦ Broken
        | ◌∷◌ turn rest ↦ onward (alone core n rest) (thread_step core turn [] s.store (thread_of s t))
      ]) (onward (alone core n turns) (thread_step core Right [] s.store (thread_of s t))))
      (cond b (elim turns as (λ _. Ran) [
        | [] ↦ Halted NoTurn s 0
        | ◌∷◌ turn rest ↦ went (runs core t n rest) s (step core s t turn)
      ]) (went (runs core t n turns) s (step core s t Right)))) [
        | true ↦ elim turns as (λ ts. IsSeen s t
            (elim ts as (λ _. Alone) [
              | [] ↦ Broken
              | ◌∷◌ turn rest ↦ onward (alone core n rest) (thread_step core turn [] s.store (thread_of s t))
            ])
            (elim ts as (λ _. Ran) [
              | [] ↦ Halted NoTurn s 0
              | ◌∷◌ turn rest ↦ went (runs core t n rest) s (step core s t turn)
            ])) [
              | [] ↦ tt
              | ◌∷◌ turn rest ↦ stepped s turn rest free
            ]
        | false ↦ stepped s Right turns free
      ]

pub beside : (core : Core) (t n : ℕ) (turns : List Turn) (s : State) → (other_of s t).locks ≡ [] →
    IsSeen s t (alone core n turns (part_of s t)) (runs core t n turns s)
beside core t zero turns s free = ap (λ (x : State). CameTo x turns) (whole s t)
beside core t (suc n) turns s free = one-more-step core t n (beside core t n) turns s free
