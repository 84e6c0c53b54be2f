use Rattle.core_code.proofs.Sites.{sites_go_on}
use Rattle.core_code.proofs.laws.sites_go_on.Goals as goal

pub returns : goal.returns
returns c = sites_go_on
