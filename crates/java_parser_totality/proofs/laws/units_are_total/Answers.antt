use Rattle.java_parser_totality.proofs.TotalUnits.{total}
use Rattle.java_parser_totality.proofs.laws.units_are_total.Goals as goal

pub returns : goal.returns
returns c = total
