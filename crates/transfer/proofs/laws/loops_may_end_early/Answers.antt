use Rattle.transfer.proofs.EarlyEnds.{states-early, lost-early}
use Rattle.transfer.proofs.laws.loops_may_end_early.Goals as goal

pub returns-clause-state : goal.returns-clause-state
returns-clause-state c = states-early

pub returns-clause-lost : goal.returns-clause-lost
returns-clause-lost c = lost-early
