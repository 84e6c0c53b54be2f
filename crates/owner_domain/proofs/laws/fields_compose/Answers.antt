use Rattle.owner_domain.proofs.Joins.{along-append}
use Rattle.owner_domain.proofs.laws.fields_compose.Goals as goal

pub returns : goal.returns
returns c = along-append
