use Rattle.std.proofs.Common.{◌≡◌, map, drop}
use Rattle.core_lowering_rules.specs.TreesOf.{resource_of}
use Rattle.core_lowering_rules.specs.Sought as wanted
use Rattle.core_lowering_locks.specs.Seen.{sought_seen}
use Rattle.core_lowering_locks.proofs.sought.do_listed_stand.Given as goal

-- it depends on what is left
abbrev pub invariant-loop-resource : goal.invariant-loop-resource
invariant-loop-resource l =
    wanted.do_resources_stand (sought_seen l.sought) (map resource_of (drop l.resource-index l.resources))
    ≡ wanted.do_resources_stand (sought_seen l.sought) (map resource_of l.resources)
