use Rattle.std.proofs.Common.{take}
use Rattle.transfer_ties.specs.Names.{AreNumbers, class_belongs}
use Rattle.transfer_ties.proofs.making.class_numbers.Given as goal

abbrev pub invariant-loop-number : goal.invariant-loop-number
invariant-loop-number l = AreNumbers class_belongs (take l.number l.classes) l.numbers
