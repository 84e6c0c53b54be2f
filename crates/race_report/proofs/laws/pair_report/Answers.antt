use Rattle.race_report.proofs.Digits.{zero, one, two, three, four, five, of_21, of_44}
use Rattle.race_report.proofs.laws.pair_report.Goals as goal

pub returns : goal.returns
returns c = simp (zero, one, two, three, four, five, of_21, of_44)
