use Rattle.racer_sources_totality.proofs.TotalLowering.{lowering}
use Rattle.racer_sources_totality.proofs.laws.lowering_is_total.Goals as goal

pub returns : goal.returns
returns c = lowering c.recursion_is_total.ensures.programs
