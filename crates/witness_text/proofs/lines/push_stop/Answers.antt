use Rattle.race_report_parts.proofs.PutChains.{four}
use Rattle.witness_text.proofs.lines.push_stop.Goals as goal

pub returns : goal.returns
returns c =
    four c.push_text.ensures c.push_number.ensures c.push_text-2.ensures c.push_number-2.ensures
