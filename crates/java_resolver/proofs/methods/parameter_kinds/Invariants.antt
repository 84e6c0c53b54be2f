use Rattle.std.proofs.Common.{◌≡◌, ◌++◌, drop}
use Rattle.java_resolver.specs.Declarations.{class_names, kinds_of}
use Rattle.java_resolver.proofs.methods.parameter_kinds.Given as goal

abbrev pub invariant-loop-parameter : goal.invariant-loop-parameter
invariant-loop-parameter l =
    let names = class_names l.classes in
    l.kinds ++ kinds_of l.hidden names (drop l.parameter-index l.parameters) ≡ kinds_of l.hidden names l.parameters
