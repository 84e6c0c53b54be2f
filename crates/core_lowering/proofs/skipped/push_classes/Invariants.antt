use Rattle.std.proofs.Common.{◌≡◌, ◌++◌, drop}
use Rattle.std.specs.List.{flat_map}
use Rattle.core_lowering.specs.Skipped.{skipped_class}
use Rattle.core_lowering.proofs.skipped.push_classes.Given as goal

abbrev pub invariant-loop-class : goal.invariant-loop-class
invariant-loop-class l =
    l.places.items ++ flat_map skipped_class (drop l.class-index l.classes) ≡
    l.fn.places.items ++ flat_map skipped_class l.classes
