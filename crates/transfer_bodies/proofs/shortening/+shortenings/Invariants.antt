use Rattle.transfer_bodies.proofs.WhatIsMade.{Walks}
use Rattle.transfer_bodies.proofs.shortening.+shortenings.Given as goal

-- what is kept of the parts so far stands for them, and those that are left begin at its height
abbrev pub invariant-shorten_all-loop-part : goal.invariant-shorten_all-loop-part
invariant-shorten_all-loop-part l = Walks l.fn.height l.parts l.part-index l.kept
