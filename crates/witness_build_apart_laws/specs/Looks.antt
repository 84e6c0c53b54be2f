-- A contract of a public call rests on this: which fields a leg reads, but for those of primitive types.
use Rattle.std.specs.Prelude.{ℕ, zero, suc, List, [], ◌++◌, Option, None, Some}
use Rattle.core_code.specs.Core.{Core}
use Rattle.core_semantics.specs.declared.answer.Turn.{Turn}
use Rattle.core_semantics.specs.Changes.{Spot, step_looks}
use Rattle.core_semantics.specs.State.{State}
use Rattle.core_semantics.specs.Advances.{Going, one_step}

abbrev pub looks_behind : (List Turn → State → List Spot) → Option Going → List Spot
looks_behind rest None = []
looks_behind rest (Some (next, turns)) = rest turns next

abbrev pub leg_looks : Core → ℕ → ℕ → List Turn → State → List Spot
leg_looks core t zero turns s = []
leg_looks core t (suc n) turns s =
    step_looks core s t ++ looks_behind (leg_looks core t n) (one_step core t turns s)
