use Rattle.std.proofs.Common.{◌≡◌, ◌-◌}
use Rattle.core_code.specs.Program.{core}
use Rattle.core_semantics.specs.Legs.{runs}
use Rattle.core_semantics.specs.View.{state_of}
use Rattle.core_ways.specs.Ends.{leg_reads}
use Rattle.core_ways.specs.Gathered.{gathered}
use Rattle.core_ways.proofs.LegSteps.{end_from}
use Rattle.core_ways.proofs.driving.run_leg.Given as goal

-- what is left of the leg, after the steps that were made, comes as far as the whole leg, and with what was gathered so
-- far gives what the whole reads
abbrev pub invariant-loop-step : goal.invariant-loop-step
invariant-loop-step l =
    let program = core l.program in
    let left = l.leg.steps - l.step in
    record {
      end : end_from l.step (runs program l.leg.thread left l.turns (state_of l.machine))
          ≡ end_from 0 (runs program l.leg.thread l.leg.steps l.leg.turns (state_of l.fn.machine));
      reads : gathered l.objects (leg_reads program l.leg.thread left l.turns (state_of l.machine))
          ≡ gathered l.fn.objects (leg_reads program l.leg.thread l.leg.steps l.leg.turns (state_of l.fn.machine));
    }
