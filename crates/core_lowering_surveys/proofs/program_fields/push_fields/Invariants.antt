use Rattle.std.proofs.Common.{◌≡◌, ◌++◌, map, drop}
use Rattle.core_lowering_rules.specs.Programs.{field_core}
use Rattle.core_lowering_surveys.proofs.program_fields.push_fields.Given as goal

abbrev pub invariant-loop-info : goal.invariant-loop-info
invariant-loop-info l =
    l.fields ++ map field_core (drop l.info-index l.infos) ≡ l.fn.fields ++ map field_core l.infos
