use Rattle.std.proofs.Common.{◌≡◌, ◌++◌, drop}
use Rattle.std.specs.List.{flat_map}
use Rattle.core_lowering_rules.specs.Programs.{skipped_in}
use Rattle.core_lowering.proofs.skipped.gathered.Given as goal

abbrev pub invariant-loop-unit : goal.invariant-loop-unit
invariant-loop-unit l =
    l.places.items ++ flat_map skipped_in (drop l.unit-index l.units) ≡ flat_map skipped_in l.units
