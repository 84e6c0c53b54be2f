use Rattle.std.proofs.Common.{List, ◌∷◌, ◌++◌, ◌+◌, map, drop, sym, ap, ◌∙◌, append-nil, append_assoc}
use Rattle.std.specs.Prelude.{option_map}
use Rattle.std.proofs.lemmas.List.{at_drop_more, at_drop_all}
use Rattle.java_tree.specs.declared.statements.VariableTree.{VariableTree}
use Rattle.java_tree.specs.View.{ty_of}
use Rattle.core_lowering_rules.specs.TreesOf.{init_of, variable_of}
use Rattle.core_lowering_rules.specs.Context.{Context, Code, variable_kind_in}
use Rattle.core_lowering_rules.specs.Scopes.{of_type, next_variable, all_declared}
use Rattle.core_lowering_rules.specs.Statements.{begun, begun_all}
use Rattle.core_lowering_context.specs.Drafts.{code_of}
use Rattle.core_lowering_parts.proofs.locals.lower_variables.Goals as goal

pub loop-variable-preserved : goal.loop-variable-preserved
loop-variable-preserved c =
    let old : Context = c.loop-variable.context in
    let made = code_of c.loop-variable.draft in
    let k = ty_of c.args.t.now in
    let all = c.args.variables.now in
    let i = c.loop-variable.variable-index in
    let v : VariableTree = c.variable-item.result in
    let rest : List VariableTree = drop (i + 1) all in
    let inside : Context = of_type old k v.arrays v.name in
    let one = c.in_ok-lower_variable.ensures in
    record {
      context =
          ap (λ (a : Context). all_declared a k (map variable_of rest)) one.context
          ∙ ap (λ (w : VariableTree). all_declared old k (map variable_of (w ∷ rest))) c.variable-item.is
          ∙ sym (at_drop_more (λ (vs : List VariableTree). all_declared old k (map variable_of vs)) all i v
          c.loop-variable-test.true)
          ∙ c.loop-variable.invariant.context;
      code =
          ap (λ (a : Context). code_of c.lower_variable.new.draft ++ begun_all a k (map variable_of rest))
          one.context
          ∙ ap (λ (x : Code). x ++ begun_all inside k (map variable_of rest)) one.code
          ∙ append_assoc made
          (begun inside (next_variable old) (variable_kind_in old k v.arrays).kind (option_map init_of v.initialiser))
          (begun_all inside k (map variable_of rest))
          ∙ ap (λ (w : VariableTree). made ++ begun_all old k (map variable_of (w ∷ rest))) c.variable-item.is
          ∙ sym (at_drop_more (λ (vs : List VariableTree). made ++ begun_all old k (map variable_of vs)) all i v
          c.loop-variable-test.true)
          ∙ c.loop-variable.invariant.code;
    }

pub returns-clause-context : goal.returns-clause-context
returns-clause-context c =
    sym (at_drop_all (λ (vs : List VariableTree). all_declared c.loop-variable.context (ty_of c.args.t.now)
    (map variable_of vs))
    c.args.variables.now c.loop-variable.variable-index c.loop-variable-test.false)
    ∙ c.loop-variable.invariant.context

pub returns-clause-code : goal.returns-clause-code
returns-clause-code c =
    let made = code_of c.loop-variable.draft in
    sym (append-nil made)
    ∙ sym (at_drop_all
    (λ (vs : List VariableTree). made ++ begun_all c.loop-variable.context (ty_of c.args.t.now) (map variable_of vs))
    c.args.variables.now c.loop-variable.variable-index c.loop-variable-test.false)
    ∙ c.loop-variable.invariant.code
