-- A contract of a public call rests on this: the law `monitors_have_one_holder`. Which states steps lead to, and that
-- each monitor is held by one thread at most (JLS 17.1).
use Rattle.std.specs.Prelude.{◌≡◌, ℕ, Bool, false, ◌&&◌, List, [], ◌∷◌, Option, None, Some}
use Rattle.std.specs.List.{list_any}
use Rattle.std.specs.Option.{option_and_then}
use Rattle.core_code.specs.Core.{Core}
use Rattle.core_semantics.specs.declared.answer.Holder.{Holder}
use Rattle.core_semantics.specs.declared.answer.Turn.{Turn}
use Rattle.core_semantics.specs.Legs.{Ran, Came, Halted}
use Rattle.core_semantics.specs.Objects.{same_monitor}
use Rattle.core_semantics.specs.State.{State, Thread}
use Rattle.core_semantics.specs.Steps.{Next, Goes, Sticks, Waits, Ends, step}

-- a step of a thread, which takes this turn where it is at a choice or a loop
pub record Move : Type 0 where
  pub thread : ℕ
  pub turn : Turn

-- the state after a step, where it is made
abbrev pub made : Next State → Option State
made (Goes next) = Some next
made (Sticks why) = None
made (Waits monitor) = None
made Ends = None

-- the state after these steps, of either thread in any order, where all are made
abbrev pub moved : Core → List Move → State → Option State
moved core [] s = Some s
moved core (m ∷ moves) s = option_and_then (moved core moves) (made (step core s m.thread m.turn))

-- whether a monitor is among these
abbrev pub is_among : Holder → List Holder → Bool
is_among monitor locks = list_any (λ held. same_monitor held monitor) locks

abbrev pub holds : Thread → Holder → Bool
holds thread monitor = is_among monitor thread.locks

-- each monitor is held by one thread at most
abbrev pub HaveOneHolder : State → Type 0
HaveOneHolder s = (monitor : Holder) → (holds s.first monitor && holds s.second monitor) ≡ false

-- the same of the state that a run comes to, or in which a step cannot be made
abbrev pub HaveOneHolderIn : Ran → Type 0
HaveOneHolderIn (Came to left) = HaveOneHolder to
HaveOneHolderIn (Halted halt at steps) = HaveOneHolder at
