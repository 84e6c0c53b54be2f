-- A state with another thread and store.
use Rattle.std.proofs.Common.{◌≡◌, ℕ, true, false, cond, nat_eq, refl}
use Rattle.core_semantics.specs.State.{State, thread_of, with_thread}
use Rattle.core_semantics.specs.Steps.{After}

pub thread-now : (s : State) (t : ℕ) (a : After) → thread_of (with_thread s t a.store a.thread) t ≡ a.thread
thread-now s t a =
    elim (nat_eq t 0) as (λ b.
    (let x : State = cond b
    (let u : State = record { store = a.store; first = a.thread; second = s.second } in u)
    (let v : State = record { store = a.store; first = s.first; second = a.thread } in v) in
    cond b x.first x.second) ≡ a.thread) [
      | true ↦ refl
      | false ↦ refl
    ]

pub store-now : (s : State) (t : ℕ) (a : After) → (with_thread s t a.store a.thread).store ≡ a.store
store-now s t a =
    elim (nat_eq t 0) as (λ b.
    (let x : State = cond b
    (let u : State = record { store = a.store; first = a.thread; second = s.second } in u)
    (let v : State = record { store = a.store; first = s.first; second = a.thread } in v) in
    x.store) ≡ a.store) [
      | true ↦ refl
      | false ↦ refl
    ]
