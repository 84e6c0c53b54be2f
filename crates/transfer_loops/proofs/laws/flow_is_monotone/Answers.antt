use Rattle.transfer_loops.proofs.Monotone.{flow-monotone}
use Rattle.transfer_loops.proofs.laws.flow_is_monotone.Goals as goal

pub returns : goal.returns
returns c = flow-monotone
