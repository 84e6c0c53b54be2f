use Rattle.core_code.specs.Program.{core}
use Rattle.race_report_parts.proofs.JsonPieces.{summaries_told}
use Rattle.race_report_parts.proofs.json.push_summaries_member.Goals as goal

pub returns : goal.returns
returns c =
    summaries_told (core c.args.program.now) c.args.text.now c.push_text.new.text c.push_summaries.new.text
    c.push_text.ensures c.push_summaries.ensures
