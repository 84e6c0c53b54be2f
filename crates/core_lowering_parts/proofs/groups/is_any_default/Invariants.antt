use Rattle.std.proofs.Common.{◌≡◌, map, drop}
use Rattle.std.specs.Prelude.{is_none}
use Rattle.std.specs.List.{list_any}
use Rattle.core_lowering_rules.specs.TreesOf.{label_of}
use Rattle.core_lowering_parts.proofs.groups.is_any_default.Given as goal

-- it depends on what is left
abbrev pub invariant-loop-label : goal.invariant-loop-label
invariant-loop-label l =
    list_any is_none (map label_of (drop l.label-index l.labels)) ≡ list_any is_none (map label_of l.labels)
