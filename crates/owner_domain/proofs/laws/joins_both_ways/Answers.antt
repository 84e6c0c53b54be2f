use Rattle.owner_domain.proofs.BothWays.{joined_state-turned, lost_state-turned}
use Rattle.owner_domain.proofs.laws.joins_both_ways.Goals as goal

pub returns-clause-joined : goal.returns-clause-joined
returns-clause-joined c = joined_state-turned

pub returns-clause-lost : goal.returns-clause-lost
returns-clause-lost c = lost_state-turned
