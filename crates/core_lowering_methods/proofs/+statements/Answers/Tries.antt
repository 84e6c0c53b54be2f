-- `try`, and catch clauses.
use Rattle.std.proofs.Common.{List, ◌∷◌, ◌++◌, ◌+◌, length, map, drop, sym, ap, ◌∙◌, rules}
use Rattle.std.proofs.lemmas.List.{at_drop_more, at_drop_all}
use Rattle.std.proofs.lemmas.Result.{on_ok_weaker, IfOk-from_err}
use Rattle.java_tree.specs.declared.statements.CatchTree.{CatchTree, out-CatchTree}
use Rattle.java_tree.specs.declared.statements.Statement.{Statement}
use Rattle.java_tree.specs.declared.statements.Statement.TheFolds.{the_lemmas}
use Rattle.java_tree.proofs.statements.Statement.TheLaws.{the_size}
use borrow.Author.Sizes.{sizes}
use Rattle.core_code.specs.declared.code.LockKind.TheVariants.{Explicit}
use Rattle.core_lowering_rules.specs.Trees.{pack_stmts, pack_catches}
use Rattle.core_lowering_rules.specs.Trees as tree
use Rattle.core_lowering_rules.specs.TreesOf.{expr_of, stmt_of, catch_of}
use Rattle.core_lowering_rules.specs.Context.{Context, Code}
use Rattle.core_lowering_rules.specs.Expressions.{code}
use Rattle.core_lowering_rules.specs.Locks.{is_stored_in, lock_noted}
use Rattle.core_lowering_rules.specs.Scopes.{of_catch, after, after_all, caught}
use Rattle.core_lowering_rules.specs.Statements.{stmt, stmts}
use Rattle.core_lowering_locks_pairs.specs.Seen.{body_of, clauses_of, resources_in}
use Rattle.core_lowering_locks_pairs.proofs.JoinedStatements.{catch-form}
use Rattle.core_lowering_context.specs.Drafts.{code_of}
use Rattle.core_lowering_context.specs.Restored.{restored}
use Rattle.core_lowering_methods.specs.StatementSteps.{behind_first, first_part, passed_by}
use Rattle.core_lowering_methods.proofs.StatementCode.{locked-made}
use Rattle.core_lowering_methods.proofs.SwitchCode.{taken-back}
use Rattle.core_lowering_methods.proofs.StatementContexts.{first-left, clause-passed}
use Rattle.core_lowering_methods.proofs.StatementContexts.{locked-left, try-left}
use Rattle.core_lowering_methods.proofs.TryCode.{first-made, guarded-made, cleared-there, finally-there, with-finally}
use Rattle.core_lowering_methods.proofs.TryCode.{without-finally, finally-code, try-code}
use Rattle.core_lowering_methods.proofs.+statements.Goals as goal

-- ---- the resources and the block

pub tries::lower_first-returns-clause-context : goal.tries::lower_first-returns-clause-context
tries::lower_first-returns-clause-context t c =
    let a = c.args.context.now in
    let ss = body_of c.args.tried.now in
    on_ok_weaker c.end_block.result
    (first-left a c.lower_resources.new.context c.lower_block.new.context c.end_block.new.context
    (resources_in c.args.tried.now) ss c.in_scope-before.result c.in_scope-before.ensures
    c.in_ok-lower_resources.ensures.context
    (c.in_ok-lower_block.ensures.context
    ∙ ap (λ (xs : List Statement). after c.lower_resources.new.context (tree.Block (pack_stmts (map stmt_of xs))))
    c.as_slice.ensures.value))
    c.end_block.ensures.context

pub tries::lower_first-returns-clause-code : goal.tries::lower_first-returns-clause-code
tries::lower_first-returns-clause-code t c =
    let a = c.args.context.now in
    let ss = body_of c.args.tried.now in
    let b : Context = c.lower_resources.new.context in
    let one = code_of c.lower_resources.new.draft in
    on_ok_weaker c.end_block.result
    (first-made a b c.lower_block.new.context (resources_in c.args.tried.now) ss (code_of c.args.draft.now) one
    (code_of c.lower_block.new.draft) (code_of c.end_block.new.draft) c.in_scope-before.result c.len-at.result
    c.in_scope-before.ensures c.len-at.ensures c.in_ok-lower_resources.ensures.context
    c.in_ok-lower_resources.ensures.code
    (c.in_ok-lower_block.ensures.context
    ∙ ap (λ (xs : List Statement). after b (tree.Block (pack_stmts (map stmt_of xs)))) c.as_slice.ensures.value)
    (c.in_ok-lower_block.ensures.code
    ∙ ap (λ (xs : List Statement). one ++ stmt b (tree.Block (pack_stmts (map stmt_of xs)))) c.as_slice.ensures.value))
    c.end_block.ensures.code

-- ---- `finally`

pub tries::lower_finally-returns-clause-context : goal.tries::lower_finally-returns-clause-context
tries::lower_finally-returns-clause-context t c =
    let a = c.args.context.now in
    let rs = resources_in c.args.tried.now in
    let ss = body_of c.args.tried.now in
    let catches = clauses_of c.args.tried.now in
    let finally = pack_stmts (map stmt_of c.args.finally.now) in
    let first : Context = c.lower_first.new.context in
    let left : Context = c.leave_guard-variable.new.self in
    on_ok_weaker c.end_finally.result
    (finally-there a c.enter_guard.new.self first c.note_unlocks.new.context c.lower_block.new.context
    c.end_finally.new.context rs ss catches finally c.leave_guard-variable.result c.in_ok-exit.ensures.context
    c.in_ok-lower_first.ensures.context c.leave_guard-variable.ensures.variable
    (cleared-there a c.enter_guard.new.self first left c.pass_clauses.new.context c.note_unlocks.new.context rs ss
    catches finally c.in_ok-exit.exit.0 c.in_ok-exit.ensures.context c.in_ok-exit.ensures.exit
    c.in_ok-lower_first.ensures.context c.leave_guard-variable.ensures.context
    (c.in_ok-pass_clauses.ensures.context
    ∙ ap (λ (cs : List CatchTree). caught left (pack_catches (map catch_of cs))) c.as_slice.ensures.value)
    c.note_unlocks.ensures)
    c.in_ok-lower_block.ensures.context)
    c.end_finally.ensures.context

pub tries::lower_finally-returns-clause-code : goal.tries::lower_finally-returns-clause-code
tries::lower_finally-returns-clause-code t c =
    let a = c.args.context.now in
    let rs = resources_in c.args.tried.now in
    let ss = body_of c.args.tried.now in
    let catches = clauses_of c.args.tried.now in
    let finally = pack_stmts (map stmt_of c.args.finally.now) in
    let old = code_of c.args.draft.now in
    let first : Context = c.lower_first.new.context in
    let left : Context = c.leave_guard-variable.new.self in
    let cleanup = stmt c.note_unlocks.new.context (tree.Block finally) in
    on_ok_weaker c.end_finally.result
    (guarded-made a c.note_unlocks.new.context c.lower_block.new.context rs ss catches finally
    c.leave_guard-variable.result first old (code_of c.lower_first.new.draft) (code_of c.lower_block.new.draft)
    (code_of c.end_finally.new.draft) c.in_ok-exit.exit.0 c.len-at.result c.len-behind.result
    c.in_ok-exit.ensures.exit c.len-at.ensures
    (c.in_ok-lower_first.ensures.context ∙ ap (λ (x : Context). behind_first x rs ss) c.in_ok-exit.ensures.context)
    c.leave_guard-variable.ensures.variable
    (c.in_ok-lower_first.ensures.code ∙ ap (λ (x : Context). old ++ first_part x rs ss) c.in_ok-exit.ensures.context)
    (c.len-behind.ensures ∙ ap length c.in_ok-pass_clauses.ensures.kept)
    (cleared-there a c.enter_guard.new.self first left c.pass_clauses.new.context c.note_unlocks.new.context rs ss
    catches finally c.in_ok-exit.exit.0 c.in_ok-exit.ensures.context c.in_ok-exit.ensures.exit
    c.in_ok-lower_first.ensures.context c.leave_guard-variable.ensures.context
    (c.in_ok-pass_clauses.ensures.context
    ∙ ap (λ (cs : List CatchTree). caught left (pack_catches (map catch_of cs))) c.as_slice.ensures.value)
    c.note_unlocks.ensures)
    c.in_ok-lower_block.ensures.context
    (c.in_ok-lower_block.ensures.code ∙ ap (λ (x : Code). x ++ cleanup) c.in_ok-pass_clauses.ensures.kept))
    c.end_finally.ensures.code

-- where memory is refused

pub tries::lower_finally-returns-in_err-exit-clause-context :
    goal.tries::lower_finally-returns-in_err-exit-clause-context
tries::lower_finally-returns-in_err-exit-clause-context t c =
    IfOk-from_err c.from_residual.result _ c.from_residual.ensures.0

pub tries::lower_finally-returns-in_err-lower_first-clause-context :
    goal.tries::lower_finally-returns-in_err-lower_first-clause-context
tries::lower_finally-returns-in_err-lower_first-clause-context t c =
    IfOk-from_err c.from_residual-in_err-lower_first.result _ c.from_residual-in_err-lower_first.ensures.0

pub tries::lower_finally-returns-in_err-pass_clauses-clause-context :
    goal.tries::lower_finally-returns-in_err-pass_clauses-clause-context
tries::lower_finally-returns-in_err-pass_clauses-clause-context t c =
    IfOk-from_err c.from_residual-in_err-pass_clauses.result _ c.from_residual-in_err-pass_clauses.ensures.0

pub tries::lower_finally-returns-in_err-lower_block-clause-context :
    goal.tries::lower_finally-returns-in_err-lower_block-clause-context
tries::lower_finally-returns-in_err-lower_block-clause-context t c =
    IfOk-from_err c.from_residual-in_err-lower_block.result _ c.from_residual-in_err-lower_block.ensures.0

-- ---- any `try`

pub tries::lower_try-returns-in-Some-clause-context : goal.tries::lower_try-returns-in-Some-clause-context
tries::lower_try-returns-in-Some-clause-context t c =
    on_ok_weaker c.lower_finally.result
    (λ made. made
    ∙ with-finally (after c.args.context.now) c.args.tried.now c.in-Some.finally c.as_slice.result.now c.in-Some.is
    c.as_slice.ensures.value)
    c.lower_finally.ensures.context

pub tries::lower_try-returns-in-Some-clause-code : goal.tries::lower_try-returns-in-Some-clause-code
tries::lower_try-returns-in-Some-clause-code t c =
    on_ok_weaker c.lower_finally.result
    (finally-code c.args.context.now (code_of c.args.draft.now) (code_of c.lower_finally.new.draft) c.args.tried.now
    c.in-Some.finally c.as_slice.result.now c.in-Some.is c.as_slice.ensures.value)
    c.lower_finally.ensures.code

pub tries::lower_try-returns-in_ok-lower_first-in-None-clause-context :
    goal.tries::lower_try-returns-in_ok-lower_first-in-None-clause-context
tries::lower_try-returns-in_ok-lower_first-in-None-clause-context t c =
    let a = c.args.context.now in
    let tried = c.args.tried.now in
    let first : Context = c.lower_first.new.context in
    on_ok_weaker c.pass_clauses.result
    (λ made. try-left a first c.pass_clauses.new.context (resources_in tried) (body_of tried) (clauses_of tried)
    c.in_ok-lower_first-in-None.ensures.context
    (made ∙ ap (λ (cs : List CatchTree). caught first (pack_catches (map catch_of cs)))
    c.as_slice-in-None.ensures.value)
    ∙ without-finally (after a) tried c.in-None.is)
    c.pass_clauses.ensures.context

pub tries::lower_try-returns-in_ok-lower_first-in-None-clause-code :
    goal.tries::lower_try-returns-in_ok-lower_first-in-None-clause-code
tries::lower_try-returns-in_ok-lower_first-in-None-clause-code t c =
    on_ok_weaker c.pass_clauses.result
    (try-code c.args.context.now (code_of c.args.draft.now) (code_of c.lower_first.new.draft)
    (code_of c.pass_clauses.new.draft) c.args.tried.now c.in-None.is c.in_ok-lower_first-in-None.ensures.code)
    c.pass_clauses.ensures.kept

-- ---- locked trys, and catch clauses

pub tries::lower_locked-lower_block-requires : goal.tries::lower_locked-lower_block-requires
tries::lower_locked-lower_block-requires t c =
    search (rules, sizes, the_size, the_lemmas, c.as_slice-body.ensures, c.decreases)

pub tries::lower_locked-pass_clauses-requires : goal.tries::lower_locked-pass_clauses-requires
tries::lower_locked-pass_clauses-requires t c =
    search (rules, sizes, the_size, the_lemmas, c.as_slice.ensures, c.decreases)

pub tries::lower_locked-returns-clause-context : goal.tries::lower_locked-returns-clause-context
tries::lower_locked-returns-clause-context t c =
    let a = c.args.context.now in
    let noted : Context = c.end_locked.new.context in
    let e = expr_of c.args.lock.on.now in
    on_ok_weaker c.pass_clauses.result
    (λ made. locked-left a c.lower_block.new.context noted c.pass_clauses.new.context c.args.lock.place
    e (body_of c.args.tried.now) (clauses_of c.args.tried.now)
    (c.in_ok-lower_block.ensures.context
    ∙ ap (λ (xs : List Statement). after a (tree.Block (pack_stmts (map stmt_of xs)))) c.as_slice-body.ensures.value)
    (c.in_ok-end_locked.ensures.context
    ∙ ap (λ (xs : List Statement). lock_noted c.lower_block.new.context e
    (is_stored_in e (pack_stmts (map stmt_of xs)))) c.as_slice-body.ensures.value)
    (made
    ∙ ap (λ (cs : List CatchTree). caught noted (pack_catches (map catch_of cs))) c.as_slice.ensures.value))
    c.pass_clauses.ensures.context

pub tries::lower_locked-returns-clause-code : goal.tries::lower_locked-returns-clause-code
tries::lower_locked-returns-clause-code t c =
    let a = c.args.context.now in
    let one = code_of c.lower_expression.new.draft in
    on_ok_weaker c.pass_clauses.result
    (locked-made Explicit c.args.lock.place (code_of c.args.draft.now) one (code_of c.lower_block.new.draft)
    (code_of c.end_locked.new.draft) (code_of c.pass_clauses.new.draft)
    (code a (expr_of c.args.lock.on.now)) (stmt a (tree.Block (body_of c.args.tried.now))) c.len-at.result
    c.in_ok-lower_expression.ensures.code c.len-at.ensures
    (c.in_ok-lower_block.ensures.code
    ∙ ap (λ (xs : List Statement). one ++ stmt a (tree.Block (pack_stmts (map stmt_of xs))))
    c.as_slice-body.ensures.value)
    c.in_ok-end_locked.ensures.code)
    c.pass_clauses.ensures.kept

pub tries::pass_clauses-loop-clause-preserved : goal.tries::pass_clauses-loop-clause-preserved
tries::pass_clauses-loop-clause-preserved t c =
    let all = c.args.clauses.now in
    let i = c.loop-clause.clause-index in
    let one : CatchTree = c.clause-item.result in
    let rest = drop (i + 1) all in
    let left = pack_catches (map catch_of rest) in
    record {
      context =
          ap (λ (x : Context). caught x left) c.in_ok-pass_clause.ensures.context
          ∙ ap (λ (w : CatchTree). caught c.loop-clause.context (pack_catches (map catch_of (w ∷ rest))))
          c.clause-item.is
          ∙ sym (at_drop_more (λ (cs : List CatchTree). caught c.loop-clause.context (pack_catches (map catch_of cs)))
          all i one c.loop-clause-test.true)
          ∙ c.loop-clause.invariant.context;
      kept = c.in_ok-pass_clause.ensures.kept ∙ c.loop-clause.invariant.kept;
    }

pub tries::pass_clauses-returns-clause-context : goal.tries::pass_clauses-returns-clause-context
tries::pass_clauses-returns-clause-context t c =
    sym (at_drop_all (λ (cs : List CatchTree). caught c.loop-clause.context (pack_catches (map catch_of cs)))
    c.args.clauses.now c.loop-clause.clause-index c.loop-clause-test.false)
    ∙ c.loop-clause.invariant.context

pub tries::pass_clause-returns-clause-kept : goal.tries::pass_clause-returns-clause-kept
tries::pass_clause-returns-clause-kept t c =
    on_ok_weaker c.end_clause.result
    (taken-back (code_of c.args.draft.now) (code_of c.lower_statements.new.draft) (code_of c.end_clause.new.draft)
    (stmts c.declare.new.self (pack_stmts (map stmt_of c.as_slice.result.now))) c.len-at.result c.len-at.ensures
    c.in_ok-lower_statements.ensures.code)
    c.end_clause.ensures.kept

pub tries::pass_clause-returns-clause-context : goal.tries::pass_clause-returns-clause-context
tries::pass_clause-returns-clause-context t c =
    let a = c.args.context.now in
    let clause = c.args.clause.now in
    let x = (out-CatchTree clause).parameter.name in
    let ss = pack_stmts (map stmt_of (out-CatchTree clause).body.items) in
    let inside : Context = c.lower_statements.new.context in
    on_ok_weaker c.end_clause.result
    (λ made. made
    ∙ ap (λ k. restored k inside) c.in_ok-before.ensures
    ∙ clause-passed a inside x ss
    (c.in_ok-lower_statements.ensures.context
    ∙ ap (λ (i : Context). after_all i (pack_stmts (map stmt_of c.as_slice.result.now))) c.in_ok-declare.ensures.context
    ∙ ap (λ (xs : List Statement). after_all (of_catch a x) (pack_stmts (map stmt_of xs)))
    c.as_slice.ensures.value)
    ∙ ap (passed_by a) (sym (catch-form clause)))
    c.end_clause.ensures.context
