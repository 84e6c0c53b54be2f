-- A contract of a public call rests on this: runs of the machine, leg by leg.
use Rattle.std.specs.Prelude.{ℕ, zero, suc, List, [], ◌∷◌, Option, None, Some, if◌then◌else◌}
use Rattle.std.specs.Option.{option_and_then}
use Rattle.core_code.specs.Core.{Core}
use Rattle.core_semantics.specs.declared.answer.Holder.{Holder}
use Rattle.core_semantics.specs.declared.answer.Turn.{Turn}
use Rattle.core_semantics.specs.declared.answer.Turn.TheVariants.{Right}
use Rattle.core_semantics.specs.declared.answer.Why.{Why}
use Rattle.core_semantics.specs.State.{State}
use Rattle.core_semantics.specs.Steps.{Next, Goes, Sticks, Waits, Ends, step}
use Rattle.core_semantics.specs.Runs.{wants_turn}

-- so many steps of one thread, which take these turns
pub record Leg : Type 0 where
  pub thread : ℕ
  pub turns : List Turn
  pub steps : ℕ

-- why a step cannot be made
pub data Halt : Type 0 where
  NoTurn : Halt
  StuckFor : (why : Why) → Halt
  HeldBy : (monitor : Holder) → Halt
  HasEnded : Halt

-- the state after all steps, with the turns that are left; or why a step cannot be made, in which state and after how
-- many steps
pub data Ran : Type 0 where
  Came : (to : State) (left : List Turn) → Ran
  Halted : (halt : Halt) (at : State) (steps : ℕ) → Ran

abbrev pub one_step_more : Ran → Ran
one_step_more (Came to left) = Came to left
one_step_more (Halted halt at steps) = Halted halt at (suc steps)

abbrev pub went : (State → Ran) → State → Next State → Ran
went rest s (Goes next) = one_step_more (rest next)
went rest s (Sticks why) = Halted (StuckFor why) s 0
went rest s (Waits monitor) = Halted (HeldBy monitor) s 0
went rest s Ends = Halted HasEnded s 0

-- so many steps of a thread, each choice or loop taking the next turn
abbrev pub runs : Core → ℕ → ℕ → List Turn → State → Ran
runs core t zero turns s = Came s turns
runs core t (suc n) turns s =
    if wants_turn s t
    then (elim turns [ [] ↦ Halted NoTurn s 0 | ◌∷◌ turn rest ↦ went (runs core t n rest) s (step core s t turn) ])
    else went (runs core t n turns) s (step core s t Right)

-- where all steps were made and all turns were used
abbrev pub whole : Ran → Option State
whole (Came to []) = Some to
whole _ = None

abbrev pub run_leg : Core → Leg → State → Option State
run_leg core leg s = whole (runs core leg.thread leg.steps leg.turns s)

-- the state after these legs in turn
abbrev pub run : Core → List Leg → State → Option State
run core [] s = Some s
run core (leg ∷ legs) s = option_and_then (run core legs) (run_leg core leg s)
