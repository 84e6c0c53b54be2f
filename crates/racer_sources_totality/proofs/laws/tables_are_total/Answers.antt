use Rattle.racer_sources_totality.proofs.TotalLowering.{tables}
use Rattle.racer_sources_totality.proofs.laws.tables_are_total.Goals as goal

pub returns : goal.returns
returns c = tables
