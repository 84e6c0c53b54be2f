use Rattle.std.proofs.Common.{rules}
use Rattle.racer_run.proofs.status.Status.exit_code.Goals as goal

pub returns : goal.returns
returns c = search rules
