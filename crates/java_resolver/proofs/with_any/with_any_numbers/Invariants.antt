use Rattle.std.proofs.Common.{take}
use Rattle.java_resolver.specs.Indexes.{AreWithAny}
use Rattle.java_resolver.proofs.with_any.with_any_numbers.Given as goal

abbrev pub invariant-loop-index : goal.invariant-loop-index
invariant-loop-index l = AreWithAny l.first l.second (take l.index l.methods)
