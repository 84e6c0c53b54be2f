use Rattle.std.proofs.Common.{◌≡◌, ◌++◌, map, drop}
use Rattle.std.specs.List.{flat_map}
use Rattle.core_lowering.specs.Parts.{part_of, class_parts}
use Rattle.core_lowering.proofs.sources.push_classes.Given as goal

abbrev pub invariant-loop-class : goal.invariant-loop-class
invariant-loop-class l =
    map part_of l.parts.items ++ flat_map class_parts (drop l.class-index l.classes) ≡
    map part_of l.fn.parts.items ++ flat_map class_parts l.classes
