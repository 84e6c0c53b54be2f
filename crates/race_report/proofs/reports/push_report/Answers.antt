use Rattle.std.proofs.Common.{sym, ap}
use Rattle.core_code.specs.Program.{core}
use Rattle.race_report_modes.specs.declared.Format.{Format}
use Rattle.race_report.specs.Modes.{formed}
use Rattle.race_report_parts.proofs.PutChains.{same_piece}
use Rattle.race_report.proofs.reports.push_report.Goals as goal

pub returns-in-Text : goal.returns-in-Text
returns-in-Text c =
    same_piece c.push_lines.ensures
    (sym (ap (λ (f : Format). formed f c.args.mode.summaries (core c.args.program.now)) c.in-Text.is))

pub returns-in-Json : goal.returns-in-Json
returns-in-Json c =
    same_piece c.push_object.ensures
    (sym (ap (λ (f : Format). formed f c.args.mode.summaries (core c.args.program.now)) c.in-Json.is))
