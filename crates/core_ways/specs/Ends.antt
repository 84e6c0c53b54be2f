-- A contract of a public call rests on this: where a leg ends, and what it reads, step by step.
use Rattle.std.specs.Prelude.{ℕ, zero, suc, List, [], ◌++◌, Option, None, Some, length, if◌then◌else◌}
use Rattle.core_code.specs.Core.{Core}
use Rattle.core_semantics.specs.declared.answer.Turn.{Turn}
use Rattle.core_semantics.specs.declared.object.StartPath.{StartPath}
use Rattle.core_semantics.specs.Advances.{Going, one_step}
use Rattle.core_semantics.specs.Legs.{Ran, Came, Halted}
use Rattle.core_semantics.specs.Runs.{wants_turn}
use Rattle.core_semantics.specs.State.{State}
use Rattle.core_ways.specs.declared.driving.LegEnd.{LegEnd}
use Rattle.core_ways.specs.declared.driving.LegEnd.TheVariants as code
use Rattle.core_ways.specs.Marks.{next_read}

-- behind the last step of a leg, or before one that cannot be made
pub data Ended : Type 0 where
  Past : (to : State) → Ended
  Stopped : (at : State) → Ended

abbrev pub ended : Ran → Ended
ended (Came to left) = Past to
ended (Halted halt at steps) = Stopped at

-- what a step reads
abbrev pub step_reads : Core → State → ℕ → List StartPath
step_reads core s t = if wants_turn s t then [] else next_read core s t

abbrev pub end_behind : State → (List Turn → State → Ended) → Option Going → Ended
end_behind s rest None = Stopped s
end_behind s rest (Some (next, turns)) = rest turns next

-- where so many steps of a thread end
abbrev pub leg_end : Core → ℕ → ℕ → List Turn → State → Ended
leg_end core t zero turns s = Past s
leg_end core t (suc n) turns s = end_behind s (leg_end core t n) (one_step core t turns s)

abbrev pub reads_behind : (List Turn → State → List StartPath) → Option Going → List StartPath
reads_behind rest None = []
reads_behind rest (Some (next, turns)) = rest turns next

-- what so many steps of a thread read
abbrev pub leg_reads : Core → ℕ → ℕ → List Turn → State → List StartPath
leg_reads core t zero turns s = []
leg_reads core t (suc n) turns s =
    step_reads core s t ++ reads_behind (leg_reads core t n) (one_step core t turns s)

-- how far a leg is run, and what is so then
abbrev pub run_end : Ran → LegEnd × State
run_end (Came to left) = (code.Came (length left), to)
run_end (Halted halt at steps) = (code.Halted steps, at)
