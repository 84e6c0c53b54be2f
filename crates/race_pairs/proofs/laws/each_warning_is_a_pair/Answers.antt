use Rattle.race_pairs.proofs.WarningPairs.{warning_is_pair}
use Rattle.race_pairs.proofs.laws.each_warning_is_a_pair.Goals as goal

pub returns : goal.returns
returns c = warning_is_pair
