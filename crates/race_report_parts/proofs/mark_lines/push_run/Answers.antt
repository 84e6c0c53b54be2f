use Rattle.std.proofs.Common.{subst, sym}
use Rattle.core_code.specs.Program.{core}
use Rattle.core_ways.specs.declared.mark.Mark.{Mark}
use Rattle.core_ways.specs.Marks.{said_by}
use Rattle.race_report_parts.specs.Written.{Puts}
use Rattle.race_report_parts.specs.Report.{run_lines}
use Rattle.race_report_parts.proofs.mark_lines.push_run.Goals as goal

pub returns-in-Confirmed : goal.returns-in-Confirmed
returns-in-Confirmed c =
    subst (λ (mark : Mark). Puts (run_lines (core c.args.program.now) (said_by mark)) c.args.text.now
    c.push_witness.new.text) (sym c.in-Confirmed.is) c.push_witness.ensures
