use Rattle.racer_run.proofs.OneStatus.{one_status}
use Rattle.racer_run.proofs.laws.one_status.Goals as goal

pub returns : goal.returns
returns c = one_status c.one_source.ensures
