use Rattle.core_code.proofs.Sites.{op_at-index, op_at-contains}
use Rattle.core_code.proofs.laws.sites_are_indices.Goals as goal

pub returns-clause-index : goal.returns-clause-index
returns-clause-index c = op_at-index

pub returns-clause-each : goal.returns-clause-each
returns-clause-each c = op_at-contains
