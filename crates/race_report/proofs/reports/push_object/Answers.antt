use Rattle.race_report_parts.proofs.PutChains.{two}
use Rattle.race_report.proofs.reports.push_object.Goals as goal

pub returns : goal.returns
returns c =
    two c.push_report.ensures c.push_end.ensures
