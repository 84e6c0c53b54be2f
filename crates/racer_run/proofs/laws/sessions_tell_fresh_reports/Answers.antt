use Rattle.racer_run.proofs.FreshReports.{tell_fresh}
use Rattle.racer_run.proofs.laws.sessions_tell_fresh_reports.Goals as goal

pub returns : goal.returns
returns c = tell_fresh c.one_source.ensures
