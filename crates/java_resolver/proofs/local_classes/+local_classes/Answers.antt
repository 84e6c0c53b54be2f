use Rattle.std.proofs.Common.{List, ◌++◌, map, refl, ap, ◌∙◌, arith, rules}
use Rattle.java_tree.specs.declared.statements.Statement.{Statement}
use Rattle.java_tree.specs.declared.statements.CatchTree.{CatchTree}
use Rattle.java_tree.specs.declared.statements.GroupTree.{GroupTree}
use Rattle.java_tree.specs.declared.statements.Statement.TheFolds.{the_lemmas}
use Rattle.java_tree.specs.Trees.{pack_stmts}
use Rattle.java_tree.specs.View.{stmt_of, catch_of, group_of, pack_rows, pack_groups}
use Rattle.racer_base.proofs.Lists.{at_end, one_turn}
use Rattle.java_resolver.specs.Hidden.{classes_in, classes_in_all, classes_in_several, classes_in_groups}
use Rattle.java_resolver.proofs.local_classes.+local_classes.Goals as goal

-- ---- statements

pub push_all-loop-statement-preserved : goal.push_all-loop-statement-preserved
push_all-loop-statement-preserved n c =
    one_turn (λ (ss : List Statement). classes_in_all (pack_stmts (map stmt_of ss)))
    (λ (s : Statement). classes_in (stmt_of s)) c.args.statements.now c.loop-statement.statement-index
    c.statement-item.result c.loop-statement.names.items c.push_classes.new.names.items (λ s ss. refl)
    c.loop-statement-test.true c.statement-item.is c.in_ok-push_classes.ensures
    ∙ c.loop-statement.invariant

pub push_all-returns : goal.push_all-returns
push_all-returns n c =
    at_end (λ (ss : List Statement). classes_in_all (pack_stmts (map stmt_of ss))) c.args.statements.now
    c.loop-statement.statement-index c.loop-statement.names.items refl (omega (arith, c.loop-statement-test.false))
    ∙ c.loop-statement.invariant

-- ---- groups

pub push_groups-loop-group-preserved : goal.push_groups-loop-group-preserved
push_groups-loop-group-preserved n c =
    one_turn (λ (gs : List GroupTree). classes_in_groups (pack_groups (map group_of gs)))
    (λ (g : GroupTree). classes_in_all (pack_stmts (map stmt_of g.body.items))) c.args.groups.now
    c.loop-group.group-index c.group-item.result c.loop-group.names.items c.push_all.new.names.items
    (λ g gs. search (rules, the_lemmas)) c.loop-group-test.true c.group-item.is
    (c.in_ok-push_all.ensures
    ∙ ap (λ (ss : List Statement). c.loop-group.names.items ++ classes_in_all (pack_stmts (map stmt_of ss)))
    c.as_slice.ensures.value)
    ∙ c.loop-group.invariant

pub push_groups-returns : goal.push_groups-returns
push_groups-returns n c =
    at_end (λ (gs : List GroupTree). classes_in_groups (pack_groups (map group_of gs))) c.args.groups.now
    c.loop-group.group-index c.loop-group.names.items refl (omega (arith, c.loop-group-test.false))
    ∙ c.loop-group.invariant

-- ---- catch clauses

pub push_clauses-loop-clause-preserved : goal.push_clauses-loop-clause-preserved
push_clauses-loop-clause-preserved n c =
    one_turn (λ (cs : List CatchTree). classes_in_several (pack_rows (map catch_of cs)))
    (λ (x : CatchTree). classes_in_all (pack_stmts (map stmt_of x.body.items))) c.args.clauses.now
    c.loop-clause.clause-index c.clause-item.result c.loop-clause.names.items c.push_all.new.names.items
    (λ x cs. search (rules, the_lemmas)) c.loop-clause-test.true c.clause-item.is
    (c.in_ok-push_all.ensures
    ∙ ap (λ (ss : List Statement). c.loop-clause.names.items ++ classes_in_all (pack_stmts (map stmt_of ss)))
    c.as_slice.ensures.value)
    ∙ c.loop-clause.invariant

pub push_clauses-returns : goal.push_clauses-returns
push_clauses-returns n c =
    at_end (λ (cs : List CatchTree). classes_in_several (pack_rows (map catch_of cs))) c.args.clauses.now
    c.loop-clause.clause-index c.loop-clause.names.items refl (omega (arith, c.loop-clause-test.false))
    ∙ c.loop-clause.invariant
