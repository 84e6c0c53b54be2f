use Rattle.std.proofs.Common.{◌≡◌, ◌++◌, drop}
use Rattle.core_semantics.specs.Steps.{passed_from}
use Rattle.core_semantics.specs.View.{frame_of}
use Rattle.core_semantics.proofs.frame.Frame.passed.Given as goal

abbrev pub invariant-loop-value : goal.invariant-loop-value
invariant-loop-value l =
    l.values.items ++ drop l.value-index l.value-items ≡ passed_from (frame_of l.fn.self) l.fn.count
