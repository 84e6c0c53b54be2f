use Rattle.race_report_parts.proofs.PutChains.{four}
use Rattle.race_report_parts.proofs.values.push_reason.Goals as goal

pub returns : goal.returns
returns c =
    four c.push_method_string.ensures c.push_place_string.ensures c.push_string.ensures c.push_text.ensures
