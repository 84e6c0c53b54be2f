use Rattle.race_report_parts.proofs.PutChains.{five}
use Rattle.race_report_parts.proofs.lines.push_reason.Goals as goal

pub returns : goal.returns
returns c =
    five c.push_text.ensures c.push_method_place.ensures c.push_space.ensures c.push_text-2.ensures c.push_end.ensures
