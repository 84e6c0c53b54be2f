use Rattle.std.proofs.Common.{◌≡◌, map, length}
use Rattle.java_tree.specs.Trees.{pack_parts}
use Rattle.java_tree.specs.View.{part_of}
use Rattle.java_resolver_parts.specs.LockTypes.{are_lock_parts}
use Rattle.java_resolver_parts.proofs.locks.are_lock_parts.Given as goal

-- the names that are left decide
abbrev pub invariant-loop-part : goal.invariant-loop-part
invariant-loop-part l =
    are_lock_parts (pack_parts (map part_of l.rest)) ≡ are_lock_parts (pack_parts (map part_of l.parts))

abbrev pub decreases-loop-part : goal.decreases-loop-part
decreases-loop-part l = length l.rest
