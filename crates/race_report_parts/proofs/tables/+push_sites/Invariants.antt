use Rattle.std.proofs.Common.{◌≡◌, ◌++◌, drop, map}
use Rattle.core_code.specs.Tree.{tree_of, in_sequence}
use Rattle.race_report_parts.specs.Sites.{sites_of}
use Rattle.race_report_parts.proofs.tables.+push_sites.Given as goal

-- the operations of the parts so far, and then those of what is left
abbrev pub invariant-loop-part : goal.invariant-loop-part
invariant-loop-part l =
    l.sites.items ++ sites_of (in_sequence (map tree_of (drop l.part-index l.part-items)))
    ≡ l.fn.sites.items ++ sites_of (tree_of l.code)
