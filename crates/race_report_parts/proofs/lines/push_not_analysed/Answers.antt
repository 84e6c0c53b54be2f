use Rattle.std.proofs.Common.{List, map, refl}
use Rattle.std.specs.List.{flat_map, enumerate_from}
use Rattle.core_code.specs.Core.{method_of}
use Rattle.core_code.specs.Program.{core}
use Rattle.core_code.specs.declared.parts.MethodCore.{MethodCore}
use Rattle.race_report_parts.specs.Report as said
use Rattle.race_report_parts.proofs.PutTurns.{put_numbered, put_all}
use Rattle.race_report_parts.proofs.lines.push_not_analysed.Goals as goal

pub loop-number-preserved : goal.loop-number-preserved
loop-number-preserved c =
    record {
      lasts = λ h. c.loop-number.invariant.lasts (c.push_not_analysed_line.ensures.lasts h);
      leaves = put_numbered (said.not_analysed_line (core c.args.program.now)) method_of _ c.loop-number.number
          c.index-methods-number.result _
          c.args.text.now c.loop-number.text c.push_not_analysed_line.new.text c.loop-number-test.true
          c.index-methods-number.is
          c.loop-number.invariant.leaves c.push_not_analysed_line.ensures;
    }

pub returns : goal.returns
returns c =
    let left = λ (methods : List MethodCore).
    flat_map (said.not_analysed_line (core c.args.program.now))
    (enumerate_from c.loop-number.number (map method_of methods)) in
    put_all left _ c.loop-number.number _ c.args.text.now c.loop-number.text refl c.loop-number-test.false
    c.loop-number.invariant.lasts c.loop-number.invariant.leaves
