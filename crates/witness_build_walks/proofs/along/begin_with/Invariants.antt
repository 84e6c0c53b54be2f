use Rattle.witness_build_walks.proofs.Fronts.{AreSame}
use Rattle.witness_build_walks.proofs.along.begin_with.Given as goal

-- the elements so far are the same
abbrev pub invariant-loop-number : goal.invariant-loop-number
invariant-loop-number l = AreSame l.number l.front l.turns
