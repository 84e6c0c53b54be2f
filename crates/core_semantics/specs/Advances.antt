-- A contract of a public call rests on this: one step of a leg, with the turns that are left then.
use Rattle.std.specs.Prelude.{◌≡◌, ℕ, List, [], ◌∷◌, Option, None, Some, if◌then◌else◌}
use Rattle.std.specs.Borrow.{Bor}
use Rattle.core_code.specs.Core.{Core}
use Rattle.core_semantics.specs.declared.answer.Turn.{Turn}
use Rattle.core_semantics.specs.declared.answer.Turn.TheVariants.{Right}
use Rattle.core_semantics.specs.Runs.{wants_turn}
use Rattle.core_semantics.specs.State.{State}
use Rattle.core_semantics.specs.Steps.{Next, Goes, Sticks, Waits, Ends, step}

-- the state after a step, where it is made
abbrev pub made_of : Next State → Option State
made_of (Goes next) = Some next
made_of (Sticks why) = None
made_of (Waits monitor) = None
made_of Ends = None

-- a state, with the turns that are left
abbrev pub Going : Type 0
Going = State × List Turn

abbrev pub with_turns : List Turn → Option State → Option Going
with_turns turns None = None
with_turns turns (Some s) = Some (s, turns)

-- a step that takes the next turn
abbrev pub turned : Core → ℕ → List Turn → State → Option Going
turned core t [] s = None
turned core t (turn ∷ turns) s = with_turns turns (made_of (step core s t turn))

-- a step that takes none
abbrev pub straight : Core → ℕ → List Turn → State → Option Going
straight core t turns s = with_turns turns (made_of (step core s t Right))

-- one step of a leg
abbrev pub one_step : Core → ℕ → List Turn → State → Option Going
one_step core t turns s = if wants_turn s t then turned core t turns s else straight core t turns s

-- whether a step was made, with the turns that are left then, and what is so then
abbrev pub IsAdvance : Option Going → State → State → Option (Bor (List Turn)) → Type 0
IsAdvance next old new None = (next ≡ None) × (new ≡ old)
IsAdvance next old new (Some rest) = next ≡ Some (new, rest.now)
