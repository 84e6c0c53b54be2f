use Rattle.std.proofs.Common.{take}
use Rattle.transfer_ties.specs.Names.{AreNumbers, method_belongs}
use Rattle.transfer_ties.proofs.making.method_numbers.Given as goal

abbrev pub invariant-loop-number : goal.invariant-loop-number
invariant-loop-number l = AreNumbers (method_belongs l.classes) (take l.number l.methods) l.numbers
