use Rattle.std.proofs.Common.{◌≡◌, ◌≤◌, ◌+◌, ◌*◌, map, drop, length}
use denote.Param.Weighed.{most}
use Rattle.java_tree.specs.declared.statements.Statement.{size-Statement}
use Rattle.java_tree.specs.declared.statements.TryTree.{size-TryTree}
use Rattle.core_lowering_rules.specs.Trees.{pack_stmts, pack_catches, pack_groups}
use Rattle.core_lowering_rules.specs.TreesOf.{stmt_of, catch_of, group_of}
use Rattle.core_lowering_rules.specs.Sought as wanted
use Rattle.core_lowering_locks.specs.Seen.{sought_seen}
use Rattle.core_lowering_locks_pairs.specs.Seen.{item_size}
use Rattle.core_lowering_locks.proofs.sought.+sought.Given as goal

-- it depends on what is left
abbrev pub invariant-do_any_stand-loop-item : goal.invariant-do_any_stand-loop-item
invariant-do_any_stand-loop-item l =
    record {
      same : wanted.do_any_stand (sought_seen l.sought) (pack_stmts (map stmt_of l.rest)) ≡
          wanted.do_any_stand (sought_seen l.sought) (pack_stmts (map stmt_of l.statements));
      fits : most size-Statement l.rest ≤ most size-Statement l.statements;
    }

abbrev pub decreases-do_any_stand-loop-item : goal.decreases-do_any_stand-loop-item
decreases-do_any_stand-loop-item l = length l.rest

abbrev pub invariant-do_groups_stand-loop-group : goal.invariant-do_groups_stand-loop-group
invariant-do_groups_stand-loop-group l =
    wanted.do_groups_stand (sought_seen l.sought) (pack_groups (map group_of (drop l.group-index l.groups)))
    ≡ wanted.do_groups_stand (sought_seen l.sought) (pack_groups (map group_of l.groups))

abbrev pub invariant-do_clauses_stand-loop-clause : goal.invariant-do_clauses_stand-loop-clause
invariant-do_clauses_stand-loop-clause l =
    wanted.do_clauses_stand (sought_seen l.sought) (pack_catches (map catch_of (drop l.clause-index l.clauses)))
    ≡ wanted.do_clauses_stand (sought_seen l.sought) (pack_catches (map catch_of l.clauses))

abbrev pub decreases-does_stmt_stand : goal.decreases-does_stmt_stand
decreases-does_stmt_stand l = 16 * goal.size-does_stmt_stand l + 0

abbrev pub decreases-does_item_stand : goal.decreases-does_item_stand
decreases-does_item_stand l = 16 * item_size l.item + 4

abbrev pub decreases-does_locked_stand : goal.decreases-does_locked_stand
decreases-does_locked_stand l = 16 * size-TryTree l.locked.tried.now + 3

abbrev pub decreases-do_any_stand : goal.decreases-do_any_stand
decreases-do_any_stand l = 16 * goal.size-do_any_stand l + 5

abbrev pub decreases-do_clauses_stand : goal.decreases-do_clauses_stand
decreases-do_clauses_stand l = 16 * goal.size-do_clauses_stand l + 8

abbrev pub decreases-do_groups_stand : goal.decreases-do_groups_stand
decreases-do_groups_stand l = 16 * goal.size-do_groups_stand l + 8

abbrev pub decreases-do_parts_stand : goal.decreases-do_parts_stand
decreases-do_parts_stand l = 16 * goal.size-do_parts_stand l + 1

abbrev pub decreases-does_try_stand : goal.decreases-does_try_stand
decreases-does_try_stand l = 16 * goal.size-does_try_stand l + 2

abbrev pub decreases-does_sync_stand : goal.decreases-does_sync_stand
decreases-does_sync_stand l = 16 * goal.size-does_sync_stand l + 9

abbrev pub decreases-does_switch_stand : goal.decreases-does_switch_stand
decreases-does_switch_stand l = 16 * goal.size-does_switch_stand l + 9
