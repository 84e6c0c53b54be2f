use Rattle.std.proofs.Common.{take}
use Rattle.typed_core.specs.Reaching.{ComesToAll}
use Rattle.typed_core.proofs.reaching.Reach.come_to_all.Given as goal

abbrev pub invariant-loop-m : goal.invariant-loop-m
invariant-loop-m l = ComesToAll (take l.m-index l.methods) l.fn.self l.self
