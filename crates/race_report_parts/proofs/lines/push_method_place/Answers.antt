use Rattle.race_report_parts.proofs.PutChains.{three}
use Rattle.race_report_parts.proofs.lines.push_method_place.Goals as goal

pub returns : goal.returns
returns c =
    three c.push_method.ensures c.push_space.ensures c.push_place.ensures
