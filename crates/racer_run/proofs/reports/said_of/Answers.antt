use Rattle.std.proofs.Common.{rules}
use Rattle.racer_run.proofs.reports.said_of.Goals as goal

pub returns-clause-said : goal.returns-clause-said
returns-clause-said g c = search rules
