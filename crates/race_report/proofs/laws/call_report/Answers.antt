use Rattle.race_report.proofs.Digits.{zero, one, two, three, four, five, eight, of_21}
use Rattle.race_report.proofs.laws.call_report.Goals as goal

pub returns : goal.returns
returns c = simp (zero, one, two, three, four, five, eight, of_21)
