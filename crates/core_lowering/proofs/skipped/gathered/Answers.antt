use Rattle.std.proofs.Common.{refl}
use Rattle.std.specs.List.{flat_map}
use Rattle.core_lowering_rules.specs.Programs.{skipped_in}
use Rattle.core_lowering.proofs.Loops.{flat_map-step}
use Rattle.racer_base.proofs.Lists.{ended}
use Rattle.core_lowering.proofs.skipped.gathered.Goals as goal

pub loop-unit-preserved : goal.loop-unit-preserved
loop-unit-preserved c =
    flat_map-step skipped_in c.args.units.now c.loop-unit.unit-index _ c.loop-unit.places.items _ _
    c.loop-unit-test.true c.unit-item.is c.in_ok-push_unit.ensures c.loop-unit.invariant

pub returns : goal.returns
returns c =
    ended (flat_map skipped_in) c.args.units.now c.loop-unit.unit-index c.loop-unit.places.items _ refl
    c.loop-unit-test.false c.loop-unit.invariant
