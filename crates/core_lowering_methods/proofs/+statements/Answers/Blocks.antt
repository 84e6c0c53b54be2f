-- Statements one after another, blocks, choices and locks.
use Rattle.std.proofs.Common.{List, ◌++◌, map, sym, ap, ◌∙◌, arith, append-nil, append_assoc}
use Rattle.std.proofs.lemmas.Result.{on_ok_weaker}
use Rattle.java_tree.specs.declared.statements.Statement.{Statement}
use Rattle.core_code.specs.declared.code.LockKind.TheVariants.{Own}
use Rattle.core_lowering_rules.specs.Trees.{Stmts, pack_stmts}
use Rattle.core_lowering_rules.specs.Trees as tree
use Rattle.core_lowering_rules.specs.TreesOf.{expr_of, stmt_of}
use Rattle.core_lowering_rules.specs.Context.{Context, Code}
use Rattle.core_lowering_rules.specs.Expressions.{code}
use Rattle.core_lowering_rules.specs.Scopes.{after, after_all}
use Rattle.core_lowering_rules.specs.Statements.{run, stmt, stmts}
use Rattle.core_lowering_locks_pairs.specs.Seen.{item_seen}
use Rattle.core_lowering_context.specs.Drafts.{code_of}
use Rattle.core_lowering_methods.proofs.Choices.{choice-made, half-made}
use Rattle.core_lowering_methods.proofs.InsideStatements.{inside-after_all}
use Rattle.core_lowering_methods.proofs.StatementCode.{block-made, held-made}
use Rattle.core_lowering_methods.proofs.StatementContexts.{left-made}
use Rattle.core_lowering_methods.proofs.+statements.Goals as goal

pub statements::lower_statements-loop-item-preserved : goal.statements::lower_statements-loop-item-preserved
statements::lower_statements-loop-item-preserved t c =
    let old : Context = c.loop-item.context in
    let made = code_of c.loop-item.draft in
    let one = item_seen c.in-Some.item in
    let left = pack_stmts (map stmt_of c.in-Some.behind.now) in
    let inside : Context = after old one in
    let done = c.in_ok-lower_item.ensures in
    let cut = c.in-Some.ensures in
    record {
      context =
          ap (λ (a : Context). after_all a left) done.context
          ∙ ap (after_all old) (sym cut.is)
          ∙ c.loop-item.invariant.context;
      code =
          ap (λ (a : Context). code_of c.lower_item.new.draft ++ stmts a left) done.context
          ∙ ap (λ (x : Code). x ++ stmts inside left) done.code
          ∙ append_assoc made (stmt old one) (stmts inside left)
          ∙ ap (λ (ss : Stmts). made ++ stmts old ss) (sym cut.is)
          ∙ c.loop-item.invariant.code;
      fits = omega (arith, cut.rest_fits, c.loop-item.invariant.fits);
    }

pub statements::lower_statements-returns-clause-context : goal.statements::lower_statements-returns-clause-context
statements::lower_statements-returns-clause-context t c =
    sym (ap (λ (ss : List Statement). after_all c.loop-item.context (pack_stmts (map stmt_of ss)))
    c.in_default.ensures)
    ∙ c.loop-item.invariant.context

pub statements::lower_statements-returns-clause-code : goal.statements::lower_statements-returns-clause-code
statements::lower_statements-returns-clause-code t c =
    let made = code_of c.loop-item.draft in
    sym (append-nil made)
    ∙ sym (ap (λ (ss : List Statement). made ++ stmts c.loop-item.context (pack_stmts (map stmt_of ss)))
    c.in_default.ensures)
    ∙ c.loop-item.invariant.code

pub statements::lower_if-returns-clause-context : goal.statements::lower_if-returns-clause-context
statements::lower_if-returns-clause-context t c =
    on_ok_weaker c.choose.result (λ made. c.in_ok-lower_statement.ensures.context) c.choose.ensures.code

pub statements::lower_if-returns-clause-code : goal.statements::lower_if-returns-clause-code
statements::lower_if-returns-clause-code t c =
    let a = c.args.context.now in
    on_ok_weaker c.choose.result
    (half-made (code_of c.args.draft.now) (code_of c.lower_run.new.draft) (code_of c.lower_statement.new.draft)
    (code_of c.choose.new.self) (run a (expr_of c.args.e.now)) (stmt a (stmt_of c.args.s.now)) c.len-left.result
    c.len-right.result c.in_ok-lower_run.ensures c.len-left.ensures c.in_ok-lower_statement.ensures.code
    c.len-right.ensures)
    c.choose.ensures.code

pub statements::lower_if_else-returns-clause-context : goal.statements::lower_if_else-returns-clause-context
statements::lower_if_else-returns-clause-context t c =
    let u = stmt_of c.args.t.now in
    on_ok_weaker c.choose.result
    (λ made. c.in_ok-lower_statement-2.ensures.context
    ∙ ap (λ (i : Context). after i u) c.in_ok-lower_statement.ensures.context)
    c.choose.ensures.code

pub statements::lower_if_else-returns-clause-code : goal.statements::lower_if_else-returns-clause-code
statements::lower_if_else-returns-clause-code t c =
    let a = c.args.context.now in
    let s = stmt_of c.args.s.now in
    let u = stmt_of c.args.t.now in
    let second = code_of c.lower_statement.new.draft in
    on_ok_weaker c.choose.result
    (choice-made (code_of c.args.draft.now) (code_of c.lower_run.new.draft) second
    (code_of c.lower_statement-2.new.draft) (code_of c.choose.new.self) (run a (expr_of c.args.e.now)) (stmt a s)
    (stmt (after a s) u) c.len-left.result c.len-right.result c.in_ok-lower_run.ensures c.len-left.ensures
    c.in_ok-lower_statement.ensures.code c.len-right.ensures
    (c.in_ok-lower_statement-2.ensures.code
    ∙ ap (λ (i : Context). second ++ stmt i u) c.in_ok-lower_statement.ensures.context))
    c.choose.ensures.code

pub statements::lower_sync-returns-clause-context : goal.statements::lower_sync-returns-clause-context
statements::lower_sync-returns-clause-context t c =
    on_ok_weaker c.hold.result (λ made. c.in_ok-lower_block.ensures.context) c.hold.ensures.code

pub statements::lower_sync-returns-clause-code : goal.statements::lower_sync-returns-clause-code
statements::lower_sync-returns-clause-code t c =
    let a = c.args.context.now in
    on_ok_weaker c.hold.result
    (held-made Own c.args.place (code_of c.args.draft.now) (code_of c.lower_expression.new.draft)
    (code_of c.lower_block.new.draft) (code_of c.hold.new.self) (code a (expr_of c.args.e.now))
    (stmt a (tree.Block (pack_stmts (map stmt_of c.args.statements.now)))) c.len-body.result
    c.in_ok-lower_expression.ensures.code c.len-body.ensures c.in_ok-lower_block.ensures.code)
    c.hold.ensures.code

pub statements::lower_block-returns-clause-context : goal.statements::lower_block-returns-clause-context
statements::lower_block-returns-clause-context t c =
    let a = c.args.context.now in
    let ss = pack_stmts (map stmt_of c.args.statements.now) in
    on_ok_weaker c.end_block.result
    (left-made a (after_all a ss) c.lower_statements.new.context c.end_block.new.context c.in_scope-before.result
    c.in_scope-before.ensures c.in_ok-lower_statements.ensures.context (inside-after_all a ss))
    c.end_block.ensures.context

pub statements::lower_block-returns-clause-code : goal.statements::lower_block-returns-clause-code
statements::lower_block-returns-clause-code t c =
    let a = c.args.context.now in
    let ss = pack_stmts (map stmt_of c.args.statements.now) in
    on_ok_weaker c.end_block.result
    (block-made a (after_all a ss) c.lower_statements.new.context (code_of c.args.draft.now)
    (code_of c.lower_statements.new.draft) (code_of c.end_block.new.draft) (stmts a ss) c.in_scope-before.result
    c.len-at.result c.in_scope-before.ensures c.in_ok-lower_statements.ensures.context (inside-after_all a ss)
    c.len-at.ensures c.in_ok-lower_statements.ensures.code)
    c.end_block.ensures.code
