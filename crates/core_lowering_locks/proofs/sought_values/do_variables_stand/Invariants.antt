use Rattle.std.proofs.Common.{◌≡◌, map, drop}
use Rattle.core_lowering_rules.specs.TreesOf.{variable_of}
use Rattle.core_lowering_rules.specs.Sought as wanted
use Rattle.core_lowering_locks.specs.Seen.{sought_seen}
use Rattle.core_lowering_locks.proofs.sought_values.do_variables_stand.Given as goal

-- it depends on what is left
abbrev pub invariant-loop-variable : goal.invariant-loop-variable
invariant-loop-variable l =
    wanted.do_variables_stand (sought_seen l.sought) (map variable_of (drop l.variable-index l.variables))
    ≡ wanted.do_variables_stand (sought_seen l.sought) (map variable_of l.variables)
