use Rattle.race_report_parts.proofs.PutChains.{two}
use Rattle.race_report_parts.proofs.values.push_mark_path.Goals as goal

pub returns : goal.returns
returns c =
    two c.push_path_string.ensures c.push_text.ensures
