use Rattle.std.proofs.Common.{take}
use Rattle.java_resolver.specs.NameNumbers.{FindsNames}
use Rattle.java_resolver.proofs.hidden.name_numbers.Given as goal

abbrev pub invariant-loop-index : goal.invariant-loop-index
invariant-loop-index l = FindsNames l.numbers (take l.index l.names)
