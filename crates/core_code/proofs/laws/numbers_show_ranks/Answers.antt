use Rattle.core_code.proofs.Ranks.{ranks_by_numbers}
use Rattle.core_code.proofs.laws.numbers_show_ranks.Goals as goal

pub returns : goal.returns
returns c = ranks_by_numbers
