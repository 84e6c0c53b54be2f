use Rattle.std.proofs.Common.{map, refl}
use Rattle.std.specs.List.{flat_map}
use Rattle.core_lowering.specs.Parts.{part_of, class_parts}
use Rattle.core_lowering.proofs.Loops.{flat_map-step}
use Rattle.racer_base.proofs.Lists.{ended}
use Rattle.core_lowering.proofs.sources.push_classes.Goals as goal

pub loop-class-preserved : goal.loop-class-preserved
loop-class-preserved c =
    flat_map-step class_parts c.args.classes.now c.loop-class.class-index _ (map part_of c.loop-class.parts.items) _ _
    c.loop-class-test.true c.class-item.is c.in_ok-push_class.ensures c.loop-class.invariant

pub returns : goal.returns
returns c =
    ended (flat_map class_parts) c.args.classes.now c.loop-class.class-index (map part_of c.loop-class.parts.items) _
    refl c.loop-class-test.false c.loop-class.invariant
