use Rattle.transfer_bodies.proofs.ReachingCode.{Leads}
use Rattle.transfer_bodies.proofs.reaching.+heights.Given as goal

abbrev pub invariant-height_behind_all-loop-part : goal.invariant-height_behind_all-loop-part
invariant-height_behind_all-loop-part l = Leads l.fn.height l.parts l.part-index l.behind
