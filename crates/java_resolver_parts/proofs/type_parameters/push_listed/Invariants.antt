use Rattle.std.proofs.Common.{◌≡◌, ◌++◌, drop, map}
use Rattle.java_resolver_parts.specs.TypeParameters.{parameter_name}
use Rattle.java_resolver_parts.proofs.type_parameters.push_listed.Given as goal

abbrev pub invariant-loop-parameter : goal.invariant-loop-parameter
invariant-loop-parameter l =
    l.names.items ++ map parameter_name (drop l.parameter-index l.parameters) ≡
    l.fn.names.items ++ map parameter_name l.parameters
