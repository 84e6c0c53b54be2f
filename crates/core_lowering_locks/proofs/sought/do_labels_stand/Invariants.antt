use Rattle.std.proofs.Common.{◌≡◌, map, drop}
use Rattle.core_lowering_rules.specs.TreesOf.{label_of}
use Rattle.core_lowering_rules.specs.Sought as wanted
use Rattle.core_lowering_locks.specs.Seen.{sought_seen}
use Rattle.core_lowering_locks.proofs.sought.do_labels_stand.Given as goal

-- it depends on what is left
abbrev pub invariant-loop-label : goal.invariant-loop-label
invariant-loop-label l =
    wanted.do_labels_stand (sought_seen l.sought) (map label_of (drop l.label-index l.labels))
    ≡ wanted.do_labels_stand (sought_seen l.sought) (map label_of l.labels)
