use Rattle.std.proofs.Common.{◌≡◌, ◌++◌, map, drop}
use Rattle.core_lowering.specs.Parts.{part_of, parts_of}
use Rattle.core_lowering.proofs.sources.parts_of.Given as goal

abbrev pub invariant-loop-unit : goal.invariant-loop-unit
invariant-loop-unit l =
    map part_of l.parts.items ++ parts_of (drop l.unit-index l.units) ≡ parts_of l.units
