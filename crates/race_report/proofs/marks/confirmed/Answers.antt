use Rattle.std.proofs.Common.{◌∙◌}
use Rattle.core_code.specs.Program.{core}
use Rattle.race_report.proofs.ConfirmedCounts.{as_many}
use Rattle.race_report.proofs.marks.confirmed.Goals as goal

pub returns : goal.returns
returns c = c.count_confirmed.ensures ∙ as_many (core c.args.program.now) c.args.found.now c.args.marks.now c.requires
