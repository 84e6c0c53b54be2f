use Rattle.std.proofs.Common.{List, ap}
use Rattle.std.specs.List.{flat_map}
use Rattle.core_code.specs.Program.{core}
use Rattle.race_pairs.specs.declared.warning.Warning.{Warning}
use Rattle.race_report_parts.specs.Report.{warning_lines, last_line}
use Rattle.race_report_parts.proofs.PutChains.{four, same_piece}
use Rattle.race_report.proofs.reports.push_lines.Goals as goal

pub returns : goal.returns
returns c =
    let program = core c.args.program.now in
    four c.push_head.ensures c.push_methods.ensures (same_piece c.push_warnings.ensures (ap (λ (ws : List Warning).
    flat_map (warning_lines program) ws) c.requires.found)) (same_piece c.push_last.ensures (ap (λ (ws : List Warning).
    last_line program ws) c.requires.found))
