use Rattle.std.proofs.Common.{refl, arith}
use Rattle.std.specs.List.{flat_map}
use Rattle.core_code.specs.Program.{core}
use Rattle.race_report_parts.proofs.MarkedWarnings.{as_long, mark_read}
use Rattle.race_report_parts.specs.Report as said
use Rattle.race_report_parts.proofs.PutTurns.{put_next, put_all}
use Rattle.race_report.proofs.text.push_found_warnings.Goals as goal

pub push_warning-requires-clause-mark : goal.push_warning-requires-clause-mark
push_warning-requires-clause-mark c =
    mark_read (core c.args.program.now) c.args.found.now c.args.marks.now c.loop-number.number _
    c.mark_at-mark.result.now
    c.requires.marks c.loop-number-test.true c.mark_at-mark.ensures

pub mark_at-mark-requires : goal.mark_at-mark-requires
mark_at-mark-requires c =
    let long = as_long (core c.args.program.now) c.args.found.now c.args.marks.now c.requires.marks in
    omega (arith, long, c.loop-number-test.true)

pub loop-number-preserved : goal.loop-number-preserved
loop-number-preserved c =
    record {
      lasts = λ h. c.loop-number.invariant.lasts (c.push_warning.ensures.lasts h);
      leaves = put_next (said.warning_lines (core c.args.program.now)) c.args.found.now c.loop-number.number _ _
          c.args.text.now c.loop-number.text c.push_warning.new.text c.loop-number-test.true
          c.loop-number.invariant.leaves c.push_warning.ensures;
    }

pub returns : goal.returns
returns c =
    put_all (flat_map (said.warning_lines (core c.args.program.now))) c.args.found.now c.loop-number.number _
    c.args.text.now c.loop-number.text refl c.loop-number-test.false c.loop-number.invariant.lasts
    c.loop-number.invariant.leaves
