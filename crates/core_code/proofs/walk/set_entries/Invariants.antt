use Rattle.std.proofs.Common.{take}
use Rattle.core_code.specs.Walks.{AreNumbered}
use Rattle.core_code.proofs.walk.set_entries.Given as goal

-- those so far have the number
abbrev pub invariant-loop-m : goal.invariant-loop-m
invariant-loop-m l = AreNumbered (take l.m-index l.methods) l.number l.initial.numbers l.numbers
