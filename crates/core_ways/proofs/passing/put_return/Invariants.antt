use Rattle.std.proofs.Common.{◌≡◌, ◌-◌, [], ◌∷◌, ◌++◌, replicate}
use Rattle.core_ways.specs.declared.part.WayPart.TheVariants.{Step}
use Rattle.core_ways.proofs.passing.put_return.Given as goal

abbrev pub invariant-loop-step : goal.invariant-loop-step
invariant-loop-step l =
    l.parts.items ++ replicate (l.locks - l.step) Step ≡ (l.fn.parts.items ++ Step ∷ []) ++ replicate l.locks Step
