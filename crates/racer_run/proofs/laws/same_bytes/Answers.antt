use Rattle.racer_run.proofs.OneReport.{same_bytes}
use Rattle.racer_run.proofs.laws.same_bytes.Goals as goal

pub returns : goal.returns
returns c = same_bytes c.one_source.ensures
