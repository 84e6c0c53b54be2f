use Rattle.race_report_parts.proofs.WarningSides.{sides_there}
use Rattle.race_report_parts.proofs.laws.each_warning_has_two_records.Goals as goal

pub returns : goal.returns
returns c = sides_there
