use Rattle.race_report_parts.proofs.PutChains.{three}
use Rattle.race_report_parts.proofs.witness.push_entries.Goals as goal

pub returns : goal.returns
returns c =
    three c.push_entry_string.ensures c.push_entry_string-2.ensures c.push_text.ensures
