use Rattle.core_code.specs.Walks.{IsKept, work}
use Rattle.core_code.proofs.walk.components.Given as goal

abbrev pub invariant-loop-turn : goal.invariant-loop-turn
invariant-loop-turn l = IsKept l.rows l.walk

abbrev pub decreases-loop-turn : goal.decreases-loop-turn
decreases-loop-turn l = work l.rows l.walk
