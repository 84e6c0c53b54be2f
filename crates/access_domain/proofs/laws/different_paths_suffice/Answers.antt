use Rattle.access_domain.proofs.Different.{from_list-different}
use Rattle.access_domain.proofs.laws.different_paths_suffice.Goals as goal

pub returns : goal.returns
returns c = from_list-different
