use Rattle.core_code.specs.Program.{core}
use Rattle.racer_run_history.specs.History as wanted
use Rattle.race_report_parts.proofs.PutTurns.{put_next}
use Rattle.racer_run_history.proofs.push_history.Goals as goal

pub loop-event-preserved : goal.loop-event-preserved
loop-event-preserved c =
    record {
      lasts = λ h. c.loop-event.invariant.lasts (c.push_event.ensures.lasts h);
      leaves = put_next (wanted.event_line (core c.args.program.now)) _ c.loop-event.event-index _ _
          c.args.text.now c.loop-event.text c.push_event.new.text c.loop-event-test.true
          c.loop-event.invariant.leaves c.push_event.ensures;
    }
