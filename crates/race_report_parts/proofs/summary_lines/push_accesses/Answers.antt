use Rattle.std.proofs.Common.{refl}
use Rattle.std.specs.List.{flat_map}
use Rattle.core_code.specs.Program.{core}
use Rattle.race_report_parts.specs.Report as said
use Rattle.race_report_parts.proofs.PutTurns.{put_read, put_all}
use Rattle.race_report_parts.proofs.summary_lines.push_accesses.Goals as goal

pub loop-access-preserved : goal.loop-access-preserved
loop-access-preserved c =
    record {
      lasts = λ h. c.loop-access.invariant.lasts (c.push_access_line.ensures.lasts h);
      leaves = put_read (said.access_line (core c.args.program.now) (record { 0 = c.args.number })) _
          c.loop-access.access-index
          c.access-item.result _
          c.args.text.now c.loop-access.text c.push_access_line.new.text c.loop-access-test.true c.access-item.is
          c.loop-access.invariant.leaves c.push_access_line.ensures;
    }

pub returns : goal.returns
returns c =
    put_all (flat_map (said.access_line (core c.args.program.now) (record { 0 = c.args.number }))) _
    c.loop-access.access-index _ c.args.text.now c.loop-access.text refl c.loop-access-test.false
    c.loop-access.invariant.lasts c.loop-access.invariant.leaves
