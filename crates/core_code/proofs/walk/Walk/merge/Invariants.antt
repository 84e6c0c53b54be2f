use Rattle.std.proofs.Common.{length}
use Rattle.core_code.specs.Walks.{IsMerged}
use Rattle.core_code.proofs.walk.Walk.merge.Given as goal

-- nothing but the last groups has changed
abbrev pub invariant-loop-self : goal.invariant-loop-self
invariant-loop-self l = IsMerged l.place l.initial.self l.self

abbrev pub decreases-loop-self : goal.decreases-loop-self
decreases-loop-self l = length l.self.groups.items
