-- A step that is stuck is one of an operation or of a lock, which has a place.
use Rattle.std.proofs.Common.{◌≡◌, ℕ, zero, suc, true, false, cond, List, [], ◌∷◌, Option, Some, refl}
use Rattle.std.proofs.Common.{slice_get, subst}
use Rattle.std.specs.Option.{option_and_then}
use Rattle.racer_base.specs.declared.ids.Place.{Place}
use Rattle.core_code.specs.Core.{Core}
use Rattle.core_semantics.specs.declared.answer.Holder.{Holder}
use Rattle.core_semantics.specs.declared.answer.Turn.{Turn}
use Rattle.core_semantics.specs.declared.answer.Turn.TheVariants.{Right}
use Rattle.core_semantics.specs.declared.answer.Why.{Why}
use Rattle.core_semantics.specs.Legs.{Ran, Came, Halted, NoTurn, StuckFor, one_step_more, runs, went}
use Rattle.core_semantics.specs.Runs.{next_of, place, place_of, wants_turn}
use Rattle.core_semantics.specs.State.{Frame, State, Store, Thread, Todo, Op, Choice, Loop, Sync, Unlock}
use Rattle.core_semantics.specs.State.{other_of, thread_of, with_thread}
use Rattle.core_semantics.specs.Steps.{After, Next, Goes, Sticks, Waits, Ends, Spot, frame_step, lock_step, operated}
use Rattle.core_semantics.specs.Steps.{step, thread_step, todo_step, top, with_todo, within}

-- where a step is stuck, this is some place
abbrev Placed : {X : Type 0} → Option Place → Next X → Type 0
Placed place (Goes next) = Unit {0}
Placed place (Sticks why) = (at : Place) × (place ≡ Some at)
Placed place (Waits monitor) = Unit {0}
Placed place Ends = Unit {0}

there : (at : Place) (n : Next After) → Placed (Some at) n
there at (Goes next) = tt
there at (Sticks why) = (at, refl)
there at (Waits monitor) = tt
there at Ends = tt

abbrev first_place : List Todo → Option Place
first_place todo = option_and_then place_of (slice_get todo 0)

todo-placed : (core : Core) (turn : Turn) (others : List Holder) (s : Spot) (todo : List Todo) →
    Placed (first_place todo) (todo_step core turn others s todo)
todo-placed core turn others s [] = tt
todo-placed core turn others s (Op at op ∷ rest) = there at (operated core s rest op)
todo-placed core turn others s (Choice left right ∷ rest) = tt
todo-placed core turn others s (Loop body ∷ rest) = tt
todo-placed core turn others s (Sync lock body ∷ rest) =
    there lock.place (lock_step others (with_todo s rest) lock.kind body (top s.frame))
todo-placed core turn others s (Unlock ∷ rest) = tt

abbrev place_in : List Frame → Option Place
place_in frames = option_and_then place_of (option_and_then next_of (slice_get frames 0))

thread-placed : (core : Core) (turn : Turn) (others : List Holder) (store : Store) (thread : Thread) →
    Placed (place_in thread.frames) (thread_step core turn others store thread)
thread-placed core turn others store thread =
    elim thread.frames as (λ fs. Placed (place_in fs) (elim fs as (λ _. Next After) [
      | [] ↦ Ends
      | ◌∷◌ frame callers ↦
          frame_step core turn others
          (record { store = store; frame = frame; callers = callers; locks = thread.locks })
    ])) [
      | [] ↦ tt
      | ◌∷◌ frame callers ↦
          todo-placed core turn others
          (record { store = store; frame = frame; callers = callers; locks = thread.locks }) frame.todo
    ]

within-placed : (at : Option Place) (whole : After → State) (n : Next After) → Placed at n → Placed at (within whole n)
within-placed at whole (Goes next) placed = tt
within-placed at whole (Sticks why) placed = placed
within-placed at whole (Waits monitor) placed = tt
within-placed at whole Ends placed = tt

step-placed : (core : Core) (s : State) (t : ℕ) (turn : Turn) → Placed (place s t) (step core s t turn)
step-placed core s t turn =
    within-placed (place s t) (λ (a : After). with_thread s t a.store a.thread)
    (thread_step core turn (other_of s t).locks s.store (thread_of s t))
    (thread-placed core turn (other_of s t).locks s.store (thread_of s t))

-- ---- runs

abbrev PlacedIn : ℕ → Ran → Type 0
PlacedIn t (Came to left) = Unit {0}
PlacedIn t (Halted halt at steps) = (why : Why) → halt ≡ StuckFor why → (p : Place) × (place at t ≡ Some p)

later-placed : (t : ℕ) (r : Ran) → PlacedIn t r → PlacedIn t (one_step_more r)
later-placed t (Came to left) placed = tt
later-placed t (Halted halt at steps) placed = placed

went-placed : (t : ℕ) (rest : State → Ran) (s : State) (n : Next State) → Placed (place s t) n →
    ((next : State) → PlacedIn t (rest next)) → PlacedIn t (went rest s n)
went-placed t rest s (Goes next) here behind = later-placed t (rest next) (behind next)
went-placed t rest s (Sticks why) here behind = λ other same. here
went-placed t rest s (Waits monitor) here behind = λ other same. absurd cc
went-placed t rest s Ends here behind = λ other same. absurd cc

runs-placed : (core : Core) (t n : ℕ) (turns : List Turn) (s : State) → PlacedIn t (runs core t n turns s)
runs-placed core t zero turns s = tt
runs-placed core t (suc n) turns s =
    elim (wants_turn s t) as (λ b. PlacedIn t (cond b
    (elim turns as (λ _. Ran) [
      | [] ↦ Halted NoTurn s 0
      | ◌∷◌ turn rest ↦ went (runs core t n rest) s (step core s t turn)
    ]) (went (runs core t n turns) s (step core s t Right)))) [
      | true ↦ elim turns as (λ ts. PlacedIn t (elim ts as (λ _. Ran) [
        | [] ↦ Halted NoTurn s 0
        | ◌∷◌ turn rest ↦ went (runs core t n rest) s (step core s t turn)
      ])) [
        | [] ↦ λ why same. absurd cc
        | ◌∷◌ turn rest ↦
            went-placed t (runs core t n rest) s (step core s t turn) (step-placed core s t turn)
            (λ next. runs-placed core t n rest next)
      ]
      | false ↦
          went-placed t (runs core t n turns) s (step core s t Right) (step-placed core s t Right)
          (λ next. runs-placed core t n turns next)
    ]

-- where a run is stuck, its thread is at a place
pub stuck-place : (core : Core) (t n : ℕ) (turns : List Turn) (s : State) (why : Why) (at : State) (steps : ℕ) →
    runs core t n turns s ≡ Halted (StuckFor why) at steps → (p : Place) × (place at t ≡ Some p)
stuck-place core t n turns s why at steps is = (subst (PlacedIn t) is (runs-placed core t n turns s)) why refl
