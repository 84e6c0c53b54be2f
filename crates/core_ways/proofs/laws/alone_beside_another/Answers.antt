use Rattle.core_ways.proofs.Beside.{beside}
use Rattle.core_ways.proofs.laws.alone_beside_another.Goals as goal

pub returns : goal.returns
returns c core t n turns s free = beside core t n turns s free
