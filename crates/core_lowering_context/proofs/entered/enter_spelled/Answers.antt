use Rattle.std.proofs.Common.{List, ap, ◌∙◌}
use Rattle.java_tree.specs.declared.methods.ParameterTree.{ParameterTree}
use Rattle.core_lowering_rules.specs.Context.{Context}
use Rattle.core_lowering_rules.specs.Methods.{parameters_declared}
use Rattle.core_lowering_context.proofs.entered.enter_spelled.Goals as goal

pub returns : goal.returns
returns c =
    c.in_ok-declare_parameters.ensures
    ∙ ap (λ (ps : List ParameterTree). parameters_declared c.in_ok-context.context ps) c.as_slice.ensures
    ∙ ap (λ (a : Context). parameters_declared a c.args.m.now.parameters) c.in_ok-context.ensures
