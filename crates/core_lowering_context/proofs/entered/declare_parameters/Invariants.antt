use Rattle.std.proofs.Common.{◌≡◌, drop}
use Rattle.core_lowering_rules.specs.Methods.{parameters_declared}
use Rattle.core_lowering_context.proofs.entered.declare_parameters.Given as goal

-- the parameters that are left lead to where all of them lead
abbrev pub invariant-loop-parameter : goal.invariant-loop-parameter
invariant-loop-parameter l =
    parameters_declared l.context (drop l.parameter-index l.parameters)
    ≡ parameters_declared l.initial.context l.parameters
