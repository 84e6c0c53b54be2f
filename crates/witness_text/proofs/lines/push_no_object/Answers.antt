use Rattle.race_report_parts.proofs.PutChains.{two}
use Rattle.witness_text.proofs.lines.push_no_object.Goals as goal

pub returns : goal.returns
returns c =
    two c.push_text.ensures c.push_number.ensures
