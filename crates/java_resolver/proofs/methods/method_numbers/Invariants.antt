use Rattle.std.proofs.Common.{take}
use Rattle.java_resolver.specs.Indexes.{FindsFirsts, method_at}
use Rattle.java_resolver.proofs.methods.method_numbers.Given as goal

abbrev pub invariant-loop-index : goal.invariant-loop-index
invariant-loop-index l = FindsFirsts method_at l.numbers (take l.index l.methods)
