use Rattle.std.proofs.Common.{List, ◌++◌, map, refl, ap, ◌∙◌}
use Rattle.std.specs.List.{flat_map}
use Rattle.java_tree.specs.declared.unit.ClassTree.{ClassTree}
use Rattle.core_lowering.specs.Parts.{MethodPart, part_of, class_parts, unit_parts, parts_of}
use Rattle.core_lowering.proofs.Loops.{flat_map-step}
use Rattle.racer_base.proofs.Lists.{ended}
use Rattle.core_lowering.proofs.sources.parts_of.Goals as goal

pub loop-unit-preserved : goal.loop-unit-preserved
loop-unit-preserved c =
    let made : List MethodPart = map part_of c.loop-unit.parts.items in
    flat_map-step unit_parts c.args.units.now c.loop-unit.unit-index _ made _ _ c.loop-unit-test.true c.unit-item.is
    (c.in_ok-push_classes.ensures ∙ ap (λ (cs : List ClassTree). made ++ flat_map class_parts cs) c.as_slice.ensures)
    c.loop-unit.invariant

pub returns : goal.returns
returns c =
    ended parts_of c.args.units.now c.loop-unit.unit-index (map part_of c.loop-unit.parts.items) _ refl
    c.loop-unit-test.false c.loop-unit.invariant
