use Rattle.race_report_parts.proofs.PutChains.{four}
use Rattle.race_report.proofs.text.push_sides.Goals as goal

pub returns : goal.returns
returns c =
    four c.push_text.ensures c.push_side.ensures c.push_text-2.ensures c.push_side-2.ensures
