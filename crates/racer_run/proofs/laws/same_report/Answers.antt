use Rattle.racer_run.proofs.OneReport.{same_report}
use Rattle.racer_run.proofs.laws.same_report.Goals as goal

pub returns : goal.returns
returns c = same_report c.one_source.ensures
