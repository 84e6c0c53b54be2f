use Rattle.std.proofs.Common.{◌≡◌, ◌++◌, map, drop}
use Rattle.typed_core.specs.Kinds.{kind_of}
use Rattle.typed_core.proofs.states.push_parameters.Given as goal

abbrev pub invariant-loop-kind : goal.invariant-loop-kind
invariant-loop-kind l =
    l.vars.items ++ map kind_of (drop l.kind-index l.parameters) ≡ l.fn.vars.items ++ map kind_of l.parameters
