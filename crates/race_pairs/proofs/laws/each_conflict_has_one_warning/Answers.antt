use Rattle.race_pairs.proofs.OneWarning.{one_warning}
use Rattle.race_pairs.proofs.laws.each_conflict_has_one_warning.Goals as goal

pub returns : goal.returns
returns c = one_warning
