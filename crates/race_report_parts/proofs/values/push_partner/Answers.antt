use Rattle.race_report_parts.proofs.PutChains.{four}
use Rattle.race_report_parts.proofs.values.push_partner.Goals as goal

pub returns : goal.returns
returns c =
    four c.push_text.ensures c.push_side_first.ensures c.push_side_last.ensures c.push_text-2.ensures
