use Rattle.owner_domain.proofs.Joins.{joined_state-itself, lost_state-itself}
use Rattle.owner_domain.proofs.laws.equal_states_join.Goals as goal

pub returns-clause-joined : goal.returns-clause-joined
returns-clause-joined c = joined_state-itself

pub returns-clause-lost : goal.returns-clause-lost
returns-clause-lost c = lost_state-itself
