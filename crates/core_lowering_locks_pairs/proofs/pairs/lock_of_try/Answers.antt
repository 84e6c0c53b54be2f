use Rattle.std.proofs.Common.{List, map, sym, ap, ◌∙◌}
use Rattle.java_tree.specs.declared.statements.Statement.{Statement}
use Rattle.core_lowering_rules.specs.Trees.{lock_before, pack_stmts}
use Rattle.core_lowering_rules.specs.TreesOf.{stmt_of}
use Rattle.core_lowering_locks_pairs.proofs.JoinedStatements.{behind-finally}
use Rattle.core_lowering_locks_pairs.proofs.pairs.lock_of_try.Goals as goal

pub returns-in-Some : goal.returns-in-Some
returns-in-Some c =
    let s = stmt_of c.args.statement.now in
    c.lock_before.ensures
    ∙ ap (λ (ss : List Statement). lock_before s (pack_stmts (map stmt_of ss))) c.as_slice.ensures.value
    ∙ sym (behind-finally s c.args.tried.now c.in-Some.finally (sym c.has_resource.ensures ∙ c.if-has_resource.false)
    c.in-Some.is)
