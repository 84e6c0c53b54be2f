use Rattle.std.proofs.Common.{◌≡◌, ◌+◌, ◌*◌, ◌++◌, map, drop, max}
use Rattle.java_tree.specs.Trees.{pack_stmts}
use Rattle.java_tree.specs.View.{stmt_of, catch_of, group_of, pack_rows, pack_groups}
use Rattle.java_tree.specs.declared.statements.Statement.{size-Statement}
use Rattle.java_resolver.specs.Hidden.{classes_in_all, classes_in_several, classes_in_groups}
use Rattle.java_resolver.proofs.local_classes.+local_classes.Given as goal

abbrev pub invariant-push_all-loop-statement : goal.invariant-push_all-loop-statement
invariant-push_all-loop-statement l =
    l.names.items ++ classes_in_all (pack_stmts (map stmt_of (drop l.statement-index l.statements))) ≡
    l.fn.names.items ++ classes_in_all (pack_stmts (map stmt_of l.statements))

abbrev pub invariant-push_groups-loop-group : goal.invariant-push_groups-loop-group
invariant-push_groups-loop-group l =
    l.names.items ++ classes_in_groups (pack_groups (map group_of (drop l.group-index l.groups))) ≡
    l.fn.names.items ++ classes_in_groups (pack_groups (map group_of l.groups))

abbrev pub invariant-push_clauses-loop-clause : goal.invariant-push_clauses-loop-clause
invariant-push_clauses-loop-clause l =
    l.names.items ++ classes_in_several (pack_rows (map catch_of (drop l.clause-index l.clauses))) ≡
    l.fn.names.items ++ classes_in_several (pack_rows (map catch_of l.clauses))

abbrev pub decreases-push_classes : goal.decreases-push_classes
decreases-push_classes l = 8 * goal.size-push_classes l + 0

abbrev pub decreases-push_all : goal.decreases-push_all
decreases-push_all l = 8 * goal.size-push_all l + 3

abbrev pub decreases-push_groups : goal.decreases-push_groups
decreases-push_groups l = 8 * goal.size-push_groups l + 4

abbrev pub decreases-push_clauses : goal.decreases-push_clauses
decreases-push_clauses l = 8 * goal.size-push_clauses l + 4

abbrev pub decreases-push_last : goal.decreases-push_last
decreases-push_last l = 8 * goal.size-push_last l + 4

abbrev pub decreases-push_try : goal.decreases-push_try
decreases-push_try l = 8 * goal.size-push_try l + 2

abbrev pub decreases-push_both : goal.decreases-push_both
decreases-push_both l = 8 * (max (size-Statement l.s.now) (size-Statement l.t.now)) + 3
