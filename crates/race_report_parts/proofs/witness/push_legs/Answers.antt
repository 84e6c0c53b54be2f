use Rattle.race_report_parts.proofs.PutChains.{three}
use Rattle.race_report_parts.proofs.witness.push_legs.Goals as goal

pub returns : goal.returns
returns c =
    three c.push_leg_object.ensures c.push_leg_object-2.ensures c.push_text.ensures
