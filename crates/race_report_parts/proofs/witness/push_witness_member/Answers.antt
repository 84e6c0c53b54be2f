use Rattle.race_report_parts.proofs.PutChains.{three}
use Rattle.race_report_parts.proofs.witness.push_witness_member.Goals as goal

pub returns : goal.returns
returns c =
    three c.push_text.ensures c.push_witness_file.ensures c.push_text-2.ensures
