use Rattle.std.proofs.Common.{◌≡◌, ◌++◌, map, drop}
use Rattle.core_lowering_rules.specs.Programs.{class_core}
use Rattle.core_lowering.proofs.classes.classes.Given as goal

abbrev pub invariant-loop-info : goal.invariant-loop-info
invariant-loop-info l =
    l.classes ++ map class_core (drop l.info-index l.infos) ≡ map class_core l.infos
