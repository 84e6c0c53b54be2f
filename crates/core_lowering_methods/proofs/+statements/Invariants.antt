use Rattle.std.proofs.Common.{◌≡◌, ◌≤◌, ◌+◌, ◌*◌, ◌++◌, None, max, map, drop, length}
use denote.Param.Weighed.{most}
use Rattle.java_tree.specs.declared.statements.Statement.{size-Statement}
use Rattle.java_tree.specs.declared.statements.TryTree.{size-TryTree}
use Rattle.core_lowering_rules.specs.Trees.{pack_stmts, pack_catches, pack_groups}
use Rattle.core_lowering_rules.specs.TreesOf.{stmt_of, catch_of, group_of}
use Rattle.core_lowering_rules.specs.Scopes.{after_all, after_groups, caught}
use Rattle.core_lowering_rules.specs.Statements.{stmts, options}
use Rattle.core_lowering_locks_pairs.specs.Seen.{item_size}
use Rattle.core_lowering_context.specs.Drafts.{code_of}
use Rattle.core_lowering_parts.specs.StatementParts.{options_with}
use Rattle.core_lowering_methods.proofs.+statements.Given as goal

-- what was made, and then the statements that are left
abbrev pub invariant-statements::lower_statements-loop-item : goal.invariant-statements::lower_statements-loop-item
invariant-statements::lower_statements-loop-item l =
    let left = pack_stmts (map stmt_of l.rest) in
    let all = pack_stmts (map stmt_of l.statements) in
    record {
      context : after_all l.context left ≡ after_all l.initial.context all;
      code : code_of l.draft ++ stmts l.context left ≡ code_of l.initial.draft ++ stmts l.initial.context all;
      fits : most size-Statement l.rest ≤ most size-Statement l.statements;
    }

abbrev pub decreases-statements::lower_statements-loop-item : goal.decreases-statements::lower_statements-loop-item
decreases-statements::lower_statements-loop-item l = length l.rest

-- what may be entered so far, and then of the groups that are left
abbrev pub invariant-switches::lower_groups-loop-group : goal.invariant-switches::lower_groups-loop-group
invariant-switches::lower_groups-loop-group l =
    let left = pack_groups (map group_of (drop l.group-index l.groups)) in
    let all = pack_groups (map group_of l.groups) in
    record {
      context : after_groups l.context left ≡ after_groups l.initial.context all;
      kept : code_of l.draft ≡ code_of l.initial.draft;
      made : options_with l.all l.context left ≡ options l.initial.context None all;
    }

-- the clauses that are left
abbrev pub invariant-tries::pass_clauses-loop-clause : goal.invariant-tries::pass_clauses-loop-clause
invariant-tries::pass_clauses-loop-clause l =
    let left = pack_catches (map catch_of (drop l.clause-index l.clauses)) in
    let all = pack_catches (map catch_of l.clauses) in
    record {
      context : caught l.context left ≡ caught l.initial.context all;
      kept : code_of l.draft ≡ code_of l.initial.draft;
    }

-- the deepest part comes first, and of functions on one part the outer one
abbrev pub decreases-statements::lower_statement : goal.decreases-statements::lower_statement
decreases-statements::lower_statement l = 16 * goal.size-statements::lower_statement l + 0

abbrev pub decreases-statements::lower_item : goal.decreases-statements::lower_item
decreases-statements::lower_item l = 16 * item_size l.item + 4

abbrev pub decreases-statements::lower_statements : goal.decreases-statements::lower_statements
decreases-statements::lower_statements l = 16 * goal.size-statements::lower_statements l + 5

abbrev pub decreases-statements::lower_block : goal.decreases-statements::lower_block
decreases-statements::lower_block l = 16 * goal.size-statements::lower_block l + 6

abbrev pub decreases-statements::lower_if : goal.decreases-statements::lower_if
decreases-statements::lower_if l = 16 * goal.size-statements::lower_if l + 1

abbrev pub decreases-statements::lower_if_else : goal.decreases-statements::lower_if_else
decreases-statements::lower_if_else l = 16 * (max (size-Statement l.s.now) (size-Statement l.t.now)) + 1

abbrev pub decreases-statements::lower_sync : goal.decreases-statements::lower_sync
decreases-statements::lower_sync l = 16 * goal.size-statements::lower_sync l + 7

abbrev pub decreases-loops::lower_round : goal.decreases-loops::lower_round
decreases-loops::lower_round l = 16 * goal.size-loops::lower_round l + 1

abbrev pub decreases-loops::lower_while : goal.decreases-loops::lower_while
decreases-loops::lower_while l = 16 * goal.size-loops::lower_while l + 2

abbrev pub decreases-loops::lower_do : goal.decreases-loops::lower_do
decreases-loops::lower_do l = 16 * goal.size-loops::lower_do l + 2

abbrev pub decreases-loops::lower_for : goal.decreases-loops::lower_for
decreases-loops::lower_for l = 16 * goal.size-loops::lower_for l + 2

abbrev pub decreases-loops::lower_elements : goal.decreases-loops::lower_elements
decreases-loops::lower_elements l = 16 * goal.size-loops::lower_elements l + 2

abbrev pub decreases-loops::lower_for_each : goal.decreases-loops::lower_for_each
decreases-loops::lower_for_each l = 16 * goal.size-loops::lower_for_each l + 3

abbrev pub decreases-loops::lower_named : goal.decreases-loops::lower_named
decreases-loops::lower_named l = 16 * goal.size-loops::lower_named l + 1

abbrev pub decreases-loops::lower_labelled : goal.decreases-loops::lower_labelled
decreases-loops::lower_labelled l = 16 * goal.size-loops::lower_labelled l + 2

abbrev pub decreases-switches::lower_group : goal.decreases-switches::lower_group
decreases-switches::lower_group l = 16 * goal.size-switches::lower_group l + 6

abbrev pub decreases-switches::lower_groups : goal.decreases-switches::lower_groups
decreases-switches::lower_groups l = 16 * goal.size-switches::lower_groups l + 7

abbrev pub decreases-switches::lower_switch : goal.decreases-switches::lower_switch
decreases-switches::lower_switch l = 16 * goal.size-switches::lower_switch l + 8

abbrev pub decreases-tries::lower_first : goal.decreases-tries::lower_first
decreases-tries::lower_first l = 16 * goal.size-tries::lower_first l + 0

abbrev pub decreases-tries::lower_finally : goal.decreases-tries::lower_finally
decreases-tries::lower_finally l = 16 * (max (size-TryTree l.tried.now) (most size-Statement l.finally.now + 1)) + 1

abbrev pub decreases-tries::lower_try : goal.decreases-tries::lower_try
decreases-tries::lower_try l = 16 * goal.size-tries::lower_try l + 2

abbrev pub decreases-tries::lower_locked : goal.decreases-tries::lower_locked
decreases-tries::lower_locked l = 16 * goal.size-tries::lower_locked l + 1

abbrev pub decreases-tries::pass_clauses : goal.decreases-tries::pass_clauses
decreases-tries::pass_clauses l = 16 * goal.size-tries::pass_clauses l + 7

abbrev pub decreases-tries::pass_clause : goal.decreases-tries::pass_clause
decreases-tries::pass_clause l = 16 * goal.size-tries::pass_clause l + 6
