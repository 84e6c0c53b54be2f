use Rattle.std.proofs.Common.{map, refl}
use Rattle.core_lowering_rules.specs.Programs.{class_core}
use Rattle.core_lowering.proofs.Loops.{map-step}
use Rattle.racer_base.proofs.Lists.{ended}
use Rattle.core_lowering.proofs.classes.classes.Goals as goal

pub loop-info-preserved : goal.loop-info-preserved
loop-info-preserved c =
    map-step class_core c.args.infos.now c.loop-info.info-index _ c.loop-info.classes _ _ _ c.loop-info-test.true
    c.info-item.is c.in_ok-push.ensures.ok c.in_ok-class.ensures c.loop-info.invariant

pub returns : goal.returns
returns c =
    ended (map class_core) c.args.infos.now c.loop-info.info-index c.loop-info.classes _ refl
    c.loop-info-test.false c.loop-info.invariant
