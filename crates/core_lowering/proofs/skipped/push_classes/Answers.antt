use Rattle.std.proofs.Common.{List, ◌++◌, refl, ap, ◌∙◌}
use Rattle.std.specs.List.{flat_map}
use Rattle.java_tree.specs.declared.unit.Member.{Member}
use Rattle.core_lowering_rules.specs.Programs.{skipped_member}
use Rattle.core_lowering.specs.Skipped.{skipped_class}
use Rattle.core_lowering.proofs.Loops.{flat_map-step}
use Rattle.racer_base.proofs.Lists.{ended}
use Rattle.core_lowering.proofs.skipped.push_classes.Goals as goal

pub loop-class-preserved : goal.loop-class-preserved
loop-class-preserved c =
    let made = c.loop-class.places.items in
    flat_map-step skipped_class c.args.classes.now c.loop-class.class-index _ made _ _ c.loop-class-test.true
    c.class-item.is
    (c.in_ok-push_members.ensures ∙ ap (λ (ms : List Member). made ++ flat_map skipped_member ms) c.as_slice.ensures)
    c.loop-class.invariant

pub returns : goal.returns
returns c =
    ended (flat_map skipped_class) c.args.classes.now c.loop-class.class-index c.loop-class.places.items _ refl
    c.loop-class-test.false c.loop-class.invariant
