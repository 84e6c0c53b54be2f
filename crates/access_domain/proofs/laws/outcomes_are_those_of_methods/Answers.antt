use Rattle.access_domain.proofs.MethodOutcomes.{same-outcome}
use Rattle.access_domain.proofs.laws.outcomes_are_those_of_methods.Goals as goal

pub returns : goal.returns
returns c = same-outcome
