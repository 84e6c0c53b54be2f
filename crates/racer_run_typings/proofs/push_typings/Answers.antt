use Rattle.core_code.specs.Program.{core}
use Rattle.racer_run_typings.specs.Lines as wanted
use Rattle.race_report_parts.proofs.PutTurns.{put_next}
use Rattle.racer_run_typings.proofs.push_typings.Goals as goal

pub loop-typing-preserved : goal.loop-typing-preserved
loop-typing-preserved c =
    record {
      lasts = λ h. c.loop-typing.invariant.lasts (c.push_typing.ensures.lasts h);
      leaves = put_next (wanted.typing_line (core c.args.program.now)) _ c.loop-typing.typing-index _ _
          c.args.text.now c.loop-typing.text c.push_typing.new.text c.loop-typing-test.true
          c.loop-typing.invariant.leaves c.push_typing.ensures;
    }
