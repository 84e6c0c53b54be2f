use Rattle.typed_core.proofs.Settling.{loops-settle}
use Rattle.typed_core.proofs.laws.loops_settle.Goals as goal

pub returns : goal.returns
returns c = loops-settle
