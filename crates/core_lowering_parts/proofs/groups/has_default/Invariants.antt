use Rattle.std.proofs.Common.{◌≡◌, map, drop}
use Rattle.core_lowering_rules.specs.Trees.{pack_groups}
use Rattle.core_lowering_rules.specs.TreesOf.{group_of}
use Rattle.core_lowering_rules.specs.Statements as wanted
use Rattle.core_lowering_parts.proofs.groups.has_default.Given as goal

-- it depends on what is left
abbrev pub invariant-loop-group : goal.invariant-loop-group
invariant-loop-group l =
    wanted.has_default (pack_groups (map group_of (drop l.group-index l.groups)))
    ≡ wanted.has_default (pack_groups (map group_of l.groups))
