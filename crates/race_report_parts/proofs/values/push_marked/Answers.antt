use Rattle.race_report_parts.proofs.PutChains.{four}
use Rattle.race_report_parts.proofs.values.push_marked.Goals as goal

pub returns : goal.returns
returns c =
    four c.push_side_first.ensures c.push_mark.ensures c.push_side_last.ensures c.push_partner.ensures
