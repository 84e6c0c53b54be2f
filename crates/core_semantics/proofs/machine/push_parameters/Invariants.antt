use Rattle.std.proofs.Common.{◌≡◌, ◌++◌, drop}
use Rattle.core_semantics.specs.Runs.{parameters_from}
use Rattle.core_semantics.proofs.machine.push_parameters.Given as goal

abbrev pub invariant-loop-index : goal.invariant-loop-index
invariant-loop-index l =
    l.values.items ++ parameters_from l.thread l.index (drop l.index l.kinds)
    ≡ l.initial.values.items ++ parameters_from l.thread 0 l.kinds
