use Rattle.std.proofs.Common.{List, ◌∷◌, ◌+◌, drop, sym, ap, ◌∙◌}
use Rattle.std.proofs.lemmas.List.{at_drop_more, at_drop_all}
use Rattle.java_tree.specs.declared.methods.ParameterTree.{ParameterTree}
use Rattle.core_lowering_rules.specs.Context.{Context}
use Rattle.core_lowering_rules.specs.Methods.{parameters_declared}
use Rattle.core_lowering_context.proofs.entered.declare_parameters.Goals as goal

pub loop-parameter-preserved : goal.loop-parameter-preserved
loop-parameter-preserved c =
    let old : Context = c.loop-parameter.context in
    let all = c.args.parameters.now in
    let i = c.loop-parameter.parameter-index in
    let p : ParameterTree = c.parameter-item.result in
    let rest : List ParameterTree = drop (i + 1) all in
    ap (λ (a : Context). parameters_declared a rest)
    c.in_ok-declare_parameter.ensures
    ∙ ap (λ (q : ParameterTree). parameters_declared old (q ∷ rest)) c.parameter-item.is
    ∙ sym (at_drop_more (parameters_declared old) all i p c.loop-parameter-test.true)
    ∙ c.loop-parameter.invariant

pub returns : goal.returns
returns c =
    sym (at_drop_all (parameters_declared c.loop-parameter.context) c.args.parameters.now
    c.loop-parameter.parameter-index c.loop-parameter-test.false)
    ∙ c.loop-parameter.invariant
