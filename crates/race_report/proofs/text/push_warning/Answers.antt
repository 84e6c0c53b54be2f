use Rattle.std.proofs.Common.{ap}
use Rattle.core_code.specs.Program.{core}
use Rattle.race_report_parts.specs.Report.{mark_lines}
use Rattle.race_report_parts.proofs.PutChains.{two, same_piece}
use Rattle.race_report.proofs.text.push_warning.Goals as goal

pub returns : goal.returns
returns c =
    let program = core c.args.program.now in
    two c.push_sides_of.ensures (same_piece c.push_mark_lines.ensures (ap (mark_lines program) c.requires.mark))
