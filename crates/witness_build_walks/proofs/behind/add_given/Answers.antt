use Rattle.std.proofs.Common.{rules}
use Rattle.witness_build_walks.proofs.behind.add_given.Goals as goal

pub returns : goal.returns
returns c = search rules
