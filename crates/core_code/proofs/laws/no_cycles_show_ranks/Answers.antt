use Rattle.core_code.proofs.LongestChains.{ranks_by_chains}
use Rattle.core_code.proofs.laws.no_cycles_show_ranks.Goals as goal

pub returns : goal.returns
returns c = ranks_by_chains
