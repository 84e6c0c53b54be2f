use Rattle.core_code.specs.Program.{core}
use Rattle.race_report_parts.proofs.JsonPieces.{whole_told}
use Rattle.race_report_parts.proofs.json.push_report.Goals as goal

pub returns : goal.returns
returns c =
    whole_told (core c.args.program.now) c.args.summaries c.args.found.now c.args.text.now c.push_first.new.text
    c.push_asked.new.text c.push_last.new.text c.requires.found c.push_first.ensures c.push_asked.ensures
    c.push_last.ensures
