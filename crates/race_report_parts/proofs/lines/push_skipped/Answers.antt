use Rattle.core_code.specs.Program.{core}
use Rattle.race_report_parts.specs.Report as said
use Rattle.race_report_parts.proofs.PutTurns.{put_next}
use Rattle.race_report_parts.proofs.lines.push_skipped.Goals as goal

pub loop-place-preserved : goal.loop-place-preserved
loop-place-preserved c =
    record {
      lasts = λ h. c.loop-place.invariant.lasts (c.push_skipped_line.ensures.lasts h);
      leaves = put_next (said.skipped_line (core c.args.program.now)) _ c.loop-place.place-index _ _
          c.args.text.now c.loop-place.text c.push_skipped_line.new.text c.loop-place-test.true
          c.loop-place.invariant.leaves c.push_skipped_line.ensures;
    }
