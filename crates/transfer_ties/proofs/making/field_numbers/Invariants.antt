use Rattle.std.proofs.Common.{take}
use Rattle.transfer_ties.specs.Names.{AreNumbers, field_belongs}
use Rattle.transfer_ties.proofs.making.field_numbers.Given as goal

abbrev pub invariant-loop-number : goal.invariant-loop-number
invariant-loop-number l = AreNumbers field_belongs (take l.number l.fields) l.numbers
