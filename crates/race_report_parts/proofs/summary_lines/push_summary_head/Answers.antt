use Rattle.race_report_parts.proofs.PutChains.{three}
use Rattle.race_report_parts.proofs.summary_lines.push_summary_head.Goals as goal

pub returns : goal.returns
returns c =
    three c.push_text.ensures c.push_method.ensures c.push_end.ensures
