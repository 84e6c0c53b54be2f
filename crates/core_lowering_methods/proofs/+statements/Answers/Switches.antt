-- `switch`.
use Rattle.std.proofs.Common.{◌≡◌, ◌≤◌, ◌∷◌, ◌+◌, ℕ, List, None, Result, Ok, Err, OnOk, length, map, drop, sym}
use Rattle.std.proofs.Common.{ap}
use Rattle.std.proofs.Common.{◌∙◌}
use Rattle.std.proofs.lemmas.List.{at_drop_more, at_drop_all}
use Rattle.std.proofs.lemmas.Result.{on_ok_weaker, IfOk-weaker}
use Rattle.java_tree.specs.declared.statements.GroupTree.{GroupTree, out-GroupTree}
use Rattle.java_tree.specs.declared.statements.Statement.{Statement}
use Rattle.core_lowering_rules.specs.Trees.{Groups, no_group, pack_groups, pack_stmts, group_then}
use Rattle.core_lowering_rules.specs.TreesOf.{expr_of, stmt_of, group_of, label_of, Group}
use Rattle.core_lowering_rules.specs.Context.{Context}
use Rattle.core_lowering_rules.specs.Scopes.{after_all, after_groups}
use Rattle.core_lowering_rules.specs.Statements.{stmts, options}
use Rattle.core_lowering_context.specs.Drafts.{code_of}
use Rattle.core_lowering_parts.specs.StatementParts.{options_with, settled}
use Rattle.core_lowering_methods.specs.StatementSteps.{statements_of}
use Rattle.core_lowering_methods.proofs.StatementContexts.{switch-left}
use Rattle.core_lowering_methods.proofs.SwitchCode.{group-form, taken-back, taken-made, switch-made}
use Rattle.core_lowering_methods.proofs.+statements.Goals as goal

-- ---- one group

pub switches::lower_group-returns-clause-context : goal.switches::lower_group-returns-clause-context
switches::lower_group-returns-clause-context t c =
    let a = c.args.context.now in
    on_ok_weaker c.end_group.result
    (λ kept. c.end_group.ensures.context
    ∙ c.in_ok-lower_statements.ensures.context
    ∙ ap (λ (ss : List Statement). after_all a (pack_stmts (map stmt_of ss))) c.as_slice.ensures.value)
    c.end_group.ensures.kept

pub switches::lower_group-returns-clause-kept : goal.switches::lower_group-returns-clause-kept
switches::lower_group-returns-clause-kept t c =
    let old = code_of c.args.draft.now in
    on_ok_weaker c.end_group.result
    (taken-back old (code_of c.lower_statements.new.draft) (code_of c.end_group.new.draft)
    (stmts c.args.context.now (pack_stmts (map stmt_of c.as_slice.result.now))) c.len-at.result c.len-at.ensures
    c.in_ok-lower_statements.ensures.code)
    c.end_group.ensures.kept

pub switches::lower_group-returns-clause-made : goal.switches::lower_group-returns-clause-made
switches::lower_group-returns-clause-made t c =
    let a = c.args.context.now in
    let old = code_of c.args.draft.now in
    let second = code_of c.lower_statements.new.draft in
    IfOk-weaker c.end_group.result (λ draft. draft ≡ drop c.len-at.result second)
    (λ draft. draft ≡ stmts a (statements_of c.args.group.now))
    (λ draft taken. taken-made old second draft (stmts a (pack_stmts (map stmt_of c.as_slice.result.now)))
    c.len-at.result c.len-at.ensures c.in_ok-lower_statements.ensures.code taken
    ∙ ap (λ (ss : List Statement). stmts a (pack_stmts (map stmt_of ss))) c.as_slice.ensures.value)
    c.end_group.ensures.taken

-- ---- groups, one after another

-- the first of groups
opened : (g : GroupTree) (gs : List GroupTree) →
    pack_groups (map group_of (g ∷ gs))
    ≡ group_then (map label_of (out-GroupTree g).labels) (statements_of g) (pack_groups (map group_of gs))
opened g gs = ap (λ (x : Group). group_then x.0 x.1 (pack_groups (map group_of gs))) (group-form g)

pub switches::lower_groups-loop-group-preserved : goal.switches::lower_groups-loop-group-preserved
switches::lower_groups-loop-group-preserved t c =
    let a : Context = c.loop-group.context in
    let all = c.args.groups.now in
    let i = c.loop-group.group-index in
    let g : GroupTree = c.group-item.result in
    let rest : List GroupTree = drop (i + 1) all in
    let left = pack_groups (map group_of rest) in
    let ss = statements_of g in
    let one = c.in_ok-made.ensures in
    record {
      context =
          ap (λ (x : Context). after_groups x left) one.context
          ∙ ap (after_groups a) (sym (opened g rest))
          ∙ ap (λ (w : GroupTree). after_groups a (pack_groups (map group_of (w ∷ rest)))) c.group-item.is
          ∙ sym (at_drop_more (λ (gs : List GroupTree). after_groups a (pack_groups (map group_of gs))) all i g
          c.loop-group-test.true)
          ∙ c.loop-group.invariant.context;
      kept = one.kept ∙ c.loop-group.invariant.kept;
      made =
          ap (λ (x : Context). options_with c.add.new.self x left) one.context
          ∙ sym (c.in_ok-add.ensures a (map label_of (out-GroupTree g).labels) ss left one.made)
          ∙ ap (options_with c.loop-group.all a) (sym (opened g rest))
          ∙ ap (λ (w : GroupTree). options_with c.loop-group.all a (pack_groups (map group_of (w ∷ rest))))
          c.group-item.is
          ∙ sym (at_drop_more
          (λ (gs : List GroupTree). options_with c.loop-group.all a (pack_groups (map group_of gs))) all i g
          c.loop-group-test.true)
          ∙ c.loop-group.invariant.made;
    }

always : {T E P : Type 0} (r : Result T E) → P → OnOk r P
always (Ok x) p = p
always (Err e) p = tt

-- where none is left
ended_by : {A : Type 0} (f : Groups → A) (all : List GroupTree) (i : ℕ) → length all ≤ i →
    f (pack_groups (map group_of (drop i all))) ≡ f no_group
ended_by f all i past = at_drop_all (λ (gs : List GroupTree). f (pack_groups (map group_of gs))) all i past

pub switches::lower_groups-returns-clause-context : goal.switches::lower_groups-returns-clause-context
switches::lower_groups-returns-clause-context t c =
    let l = c.loop-group in
    let ended : l.context ≡ after_groups c.args.context.now (pack_groups (map group_of c.args.groups.now)) =
    sym (ended_by (after_groups l.context) c.args.groups.now l.group-index c.loop-group-test.false)
    ∙ l.invariant.context in
    always c.finish.result ended

pub switches::lower_groups-returns-clause-kept : goal.switches::lower_groups-returns-clause-kept
switches::lower_groups-returns-clause-kept t c = always c.finish.result c.loop-group.invariant.kept

pub switches::lower_groups-returns-clause-made : goal.switches::lower_groups-returns-clause-made
switches::lower_groups-returns-clause-made t c =
    let l = c.loop-group in
    let gs = pack_groups (map group_of c.args.groups.now) in
    let settles : settled l.all ≡ options c.args.context.now None gs =
    sym (ended_by (options_with l.all l.context) c.args.groups.now l.group-index c.loop-group-test.false)
    ∙ l.invariant.made in
    IfOk-weaker c.finish.result (λ made. made.items ≡ settled l.all)
    (λ made. made.items ≡ options c.args.context.now None gs) (λ made is. is ∙ settles) c.finish.ensures

-- ---- the whole

pub switches::lower_switch-returns-clause-context : goal.switches::lower_switch-returns-clause-context
switches::lower_switch-returns-clause-context t c =
    let a = c.args.context.now in
    let gs = pack_groups (map group_of c.args.groups.now) in
    on_ok_weaker c.end_switch.result
    (switch-left a c.lower_groups.new.context c.end_switch.new.context gs c.in_ok-exit.exit.0
    c.in_scope-before.result c.in_ok-exit.ensures.exit c.in_scope-before.ensures
    (c.in_ok-options.ensures.context ∙ ap (λ (x : Context). after_groups x gs) c.in_ok-exit.ensures.context))
    c.end_switch.ensures.context

pub switches::lower_switch-returns-clause-code : goal.switches::lower_switch-returns-clause-code
switches::lower_switch-returns-clause-code t c =
    let gs = pack_groups (map group_of c.args.groups.now) in
    on_ok_weaker c.end_switch.result
    (switch-made c.args.context.now c.enter_switch.new.self c.lower_groups.new.context (expr_of c.args.e.now) gs
    c.in_ok-options.options.items (code_of c.args.draft.now) (code_of c.lower_run.new.draft)
    (code_of c.lower_groups.new.draft) (code_of c.lower_fork.new.draft) (code_of c.end_switch.new.draft)
    c.in_ok-exit.exit.0 c.in_scope-before.result c.len-at.result c.in_scope-before.ensures c.in_ok-lower_run.ensures
    c.len-at.ensures c.in_ok-exit.ensures.exit c.in_ok-exit.ensures.context c.in_ok-options.ensures.context
    c.in_ok-options.ensures.kept c.in_ok-options.ensures.made c.in_ok-lower_fork.ensures)
    c.end_switch.ensures.code
