-- Loops and labels.
use Rattle.std.proofs.Common.{◌≡◌, drop, map, option_map, ap, ◌∙◌}
use Rattle.std.proofs.lemmas.Result.{on_ok_weaker, IfOk-weaker}
use Rattle.java_tree.specs.View.{ty_of}
use Rattle.core_lowering_drafts.specs.Drafts.{has, Exit}
use Rattle.core_lowering_rules.specs.Trees.{pack_exprs}
use Rattle.core_lowering_rules.specs.TreesOf.{expr_of, condition_of, start_of, stmt_of}
use Rattle.core_lowering_rules.specs.Context.{Context, Code, ends_of}
use Rattle.core_lowering_rules.specs.Scopes.{declared, of_type, started, in_loop, back_from, after}
use Rattle.core_lowering_rules.specs.Statements.{stmt}
use Rattle.core_lowering_context.specs.Drafts.{code_of}
use Rattle.core_lowering_methods.proofs.LoopCode.{body-made, round-made, while-made, do-made, for-made, elements-made}
use Rattle.core_lowering_methods.proofs.LoopCode.{each-made, named-made}
use Rattle.core_lowering_methods.proofs.StatementContexts.{left-made, loop-left, label-left, inside-for, inside-each}
use Rattle.core_lowering_methods.proofs.+statements.Goals as goal

-- ---- rounds

pub loops::lower_round-returns-clause-context : goal.loops::lower_round-returns-clause-context
loops::lower_round-returns-clause-context t c =
    let s = stmt_of c.args.s.now in
    on_ok_weaker c.end_round.result
    (λ made. c.in_ok-lower_statement.ensures.context ∙ ap (λ (x : Context). after x s) c.in_ok-exits.ensures.context)
    c.end_round.ensures.code

pub loops::lower_round-returns-clause-code : goal.loops::lower_round-returns-clause-code
loops::lower_round-returns-clause-code t c =
    on_ok_weaker c.end_round.result
    (round-made c.args.context.now c.enter_loop.new.self (stmt_of c.args.s.now) (code_of c.args.draft.now)
    (code_of c.lower_statement.new.draft) (code_of c.end_round.new.draft) c.len-at.result
    c.in_ok-exits.exits.continue_to.0 c.in_ok-exits.ensures.context c.len-at.ensures
    c.in_ok-lower_statement.ensures.code c.in_ok-exits.ensures.continue_to)
    c.end_round.ensures.code

pub loops::lower_round-returns-clause-exit : goal.loops::lower_round-returns-clause-exit
loops::lower_round-returns-clause-exit t c =
    IfOk-weaker c.end_round.result (λ round. round.break_to.0 ≡ c.in_ok-exits.exits.break_to.0)
    (λ round. round.break_to.0 ≡ c.args.context.now.exits)
    (λ round is. is ∙ c.in_ok-exits.ensures.break_to) c.end_round.ensures.exit

pub loops::lower_round-returns-clause-has_break : goal.loops::lower_round-returns-clause-has_break
loops::lower_round-returns-clause-has_break t c =
    let a = c.args.context.now in
    let s = stmt_of c.args.s.now in
    let second = code_of c.lower_statement.new.draft in
    let exit = c.in_ok-exits.exits.break_to.0 in
    IfOk-weaker c.end_round.result
    (λ round. round.has_break ≡ has (ends_of (drop c.len-at.result second)) (Exit exit))
    (λ round. round.has_break ≡ has (ends_of (stmt (in_loop a) s)) (Exit a.exits))
    (λ round is. is
    ∙ ap (λ (x : Code). has (ends_of x) (Exit exit))
    (body-made a c.enter_loop.new.self s (code_of c.args.draft.now) second c.len-at.result
    c.in_ok-exits.ensures.context c.len-at.ensures c.in_ok-lower_statement.ensures.code)
    ∙ ap (λ n. has (ends_of (stmt (in_loop a) s)) (Exit n)) c.in_ok-exits.ensures.break_to)
    c.end_round.ensures.has_break

-- ---- loops

pub loops::lower_while-returns-clause-context : goal.loops::lower_while-returns-clause-context
loops::lower_while-returns-clause-context t c =
    on_ok_weaker c.end_while.result
    (loop-left c.args.context.now c.lower_round.new.context c.end_while.new.context (stmt_of c.args.s.now)
    c.in_ok-round.round.break_to.0 c.in_ok-round.ensures.exit c.in_ok-round.ensures.context)
    c.end_while.ensures.context

pub loops::lower_while-returns-clause-code : goal.loops::lower_while-returns-clause-code
loops::lower_while-returns-clause-code t c =
    on_ok_weaker c.end_while.result
    (while-made c.args.context.now c.lower_round.new.context c.in_ok-round.round (condition_of c.args.e.now)
    (stmt_of c.args.s.now) (code_of c.args.draft.now) (code_of c.lower_run.new.draft)
    (code_of c.lower_round.new.draft) (code_of c.end_while.new.draft) c.len-at.result
    (c.in_ok-round.ensures.exit, c.in_ok-round.ensures.has_break) c.in_ok-round.ensures.context
    c.in_ok-lower_run.ensures c.len-at.ensures c.in_ok-round.ensures.code)
    c.end_while.ensures.code

pub loops::lower_do-returns-clause-context : goal.loops::lower_do-returns-clause-context
loops::lower_do-returns-clause-context t c =
    on_ok_weaker c.end_do.result
    (loop-left c.args.context.now c.lower_round.new.context c.end_do.new.context (stmt_of c.args.s.now)
    c.in_ok-round.round.break_to.0 c.in_ok-round.ensures.exit c.in_ok-round.ensures.context)
    c.end_do.ensures.context

pub loops::lower_do-returns-clause-code : goal.loops::lower_do-returns-clause-code
loops::lower_do-returns-clause-code t c =
    on_ok_weaker c.end_do.result
    (do-made c.args.context.now c.lower_round.new.context c.in_ok-round.round (condition_of c.args.e.now)
    (stmt_of c.args.s.now) (code_of c.args.draft.now) (code_of c.lower_round.new.draft) (code_of c.end_do.new.draft)
    c.len-at.result (c.in_ok-round.ensures.exit, c.in_ok-round.ensures.has_break) c.in_ok-round.ensures.context
    c.len-at.ensures c.in_ok-round.ensures.code)
    c.end_do.ensures.code

pub loops::lower_for-returns-clause-context : goal.loops::lower_for-returns-clause-context
loops::lower_for-returns-clause-context t c =
    let a = c.args.context.now in
    let s = stmt_of c.args.s.now in
    let i = start_of c.args.start.now in
    let first = started a i in
    on_ok_weaker c.end_block.result
    (left-made a (back_from first (after (in_loop first) s)) c.end_for.new.context c.end_block.new.context
    c.in_scope-before.result c.in_scope-before.ensures
    (loop-left c.begin_for.new.context c.lower_round.new.context c.end_for.new.context s
    c.in_ok-round.round.break_to.0 c.in_ok-round.ensures.exit c.in_ok-round.ensures.context
    c.in_ok-end_for.ensures.context
    ∙ ap (λ (x : Context). back_from x (after (in_loop x) s)) c.in_ok-begin_for.ensures.context)
    (inside-for a i s))
    c.end_block.ensures.context

pub loops::lower_for-returns-clause-code : goal.loops::lower_for-returns-clause-code
loops::lower_for-returns-clause-code t c =
    let s = stmt_of c.args.s.now in
    on_ok_weaker c.end_block.result
    (for-made c.args.context.now c.begin_for.new.context c.lower_round.new.context c.end_for.new.context
    c.in_ok-round.round (start_of c.args.start.now) (option_map condition_of c.args.e.now)
    (pack_exprs (map expr_of c.args.updates.now)) s (code_of c.args.draft.now) (code_of c.begin_for.new.draft)
    (code_of c.lower_round.new.draft) (code_of c.end_for.new.draft) (code_of c.end_block.new.draft)
    c.in_scope-before.result c.len-first.result c.len-at.result c.in_scope-before.ensures c.len-first.ensures
    c.in_ok-begin_for.ensures.context c.in_ok-begin_for.ensures.code c.len-at.ensures
    (c.in_ok-round.ensures.exit, c.in_ok-round.ensures.has_break) c.in_ok-round.ensures.context
    c.in_ok-round.ensures.code c.in_ok-end_for.ensures.code
    (loop-left c.begin_for.new.context c.lower_round.new.context c.end_for.new.context s
    c.in_ok-round.round.break_to.0 c.in_ok-round.ensures.exit c.in_ok-round.ensures.context
    c.in_ok-end_for.ensures.context))
    c.end_block.ensures.code

pub loops::lower_elements-returns-clause-context : goal.loops::lower_elements-returns-clause-context
loops::lower_elements-returns-clause-context t c =
    on_ok_weaker c.end_for_each.result
    (loop-left c.args.context.now c.lower_round.new.context c.end_for_each.new.context (stmt_of c.args.s.now)
    c.in_ok-round.round.break_to.0 c.in_ok-round.ensures.exit c.in_ok-round.ensures.context)
    c.end_for_each.ensures.context

pub loops::lower_elements-returns-clause-code : goal.loops::lower_elements-returns-clause-code
loops::lower_elements-returns-clause-code t c =
    on_ok_weaker c.end_for_each.result
    (elements-made c.args.context.now c.in_ok-round.round c.args.v (stmt_of c.args.s.now) (code_of c.args.draft.now)
    (code_of c.lower_next.new.draft) (code_of c.lower_round.new.draft) (code_of c.end_for_each.new.draft)
    c.len-at.result (c.in_ok-round.ensures.exit, c.in_ok-round.ensures.has_break) c.len-at.ensures
    c.in_ok-lower_next.ensures c.in_ok-round.ensures.code)
    c.end_for_each.ensures.code

pub loops::lower_for_each-returns-clause-context : goal.loops::lower_for_each-returns-clause-context
loops::lower_for_each-returns-clause-context t c =
    let a = c.args.context.now in
    let s = stmt_of c.args.s.now in
    let x = c.args.x.now in
    let kind = ty_of c.args.t.now in
    let first = of_type a kind 0 x in
    on_ok_weaker c.end_block.result
    (left-made a (back_from first (after (in_loop first) s)) c.lower_elements.new.context c.end_block.new.context
    c.in_scope-before.result c.in_scope-before.ensures
    (c.in_ok-lower_elements.ensures.context
    ∙ ap (λ (y : Context). back_from y (after (in_loop y) s))
    (c.in_ok-v.ensures.context ∙ ap (λ k. declared a k x) c.variable_kind.ensures))
    (inside-each a kind x s))
    c.end_block.ensures.context

pub loops::lower_for_each-returns-clause-code : goal.loops::lower_for_each-returns-clause-code
loops::lower_for_each-returns-clause-code t c =
    let a = c.args.context.now in
    let x = c.args.x.now in
    on_ok_weaker c.end_block.result
    (each-made a c.declare.new.self c.lower_elements.new.context (ty_of c.args.t.now) x (expr_of c.args.e.now)
    (stmt_of c.args.s.now) c.in_ok-v.v (code_of c.args.draft.now) (code_of c.lower_gone_over.new.draft)
    (code_of c.lower_elements.new.draft) (code_of c.end_block.new.draft) c.in_scope-before.result c.len-first.result
    c.in_scope-before.ensures c.len-first.ensures c.in_ok-lower_gone_over.ensures c.in_ok-v.ensures.variable
    (c.in_ok-v.ensures.context ∙ ap (λ k. declared a k x) c.variable_kind.ensures) c.in_ok-lower_elements.ensures.code
    c.in_ok-lower_elements.ensures.context)
    c.end_block.ensures.code

-- ---- labels

pub loops::lower_named-returns-clause-context : goal.loops::lower_named-returns-clause-context
loops::lower_named-returns-clause-context t c =
    let s = stmt_of c.args.s.now in
    label-left c.args.context.now c.lower_statement.new.context c.leave_target.new.self s c.args.x.now
    c.in_ok-exit.exit.0 c.in_ok-exit.ensures.exit
    (c.in_ok-lower_statement.ensures.context ∙ ap (λ (y : Context). after y s) c.in_ok-exit.ensures.context)
    c.leave_target.ensures

pub loops::lower_named-returns-clause-code : goal.loops::lower_named-returns-clause-code
loops::lower_named-returns-clause-code t c =
    named-made c.args.context.now c.enter_labelled.new.self (stmt_of c.args.s.now) c.args.x.now c.in_ok-exit.exit.0
    (code_of c.args.draft.now) (code_of c.lower_statement.new.draft) (code_of c.come_out.new.self) c.len-at.result
    c.in_ok-exit.ensures.exit c.in_ok-exit.ensures.context c.len-at.ensures c.in_ok-lower_statement.ensures.code
    c.in_ok-come_out.ensures
