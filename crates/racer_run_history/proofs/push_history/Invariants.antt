use Rattle.std.proofs.Common.{drop}
use Rattle.std.specs.List.{flat_map}
use Rattle.core_code.specs.Program.{core}
use Rattle.race_report_parts.specs.Written.{Lasts, Leaves}
use Rattle.racer_run_history.specs.History as wanted
use Rattle.racer_run_history.proofs.push_history.Given as goal

-- the events that are left
abbrev pub invariant-loop-event : goal.invariant-loop-event
invariant-loop-event l =
    record {
      lasts : Lasts l.fn.text l.text;
      leaves : Leaves (flat_map (wanted.event_line (core l.program)) l.history)
          (flat_map (wanted.event_line (core l.program)) (drop l.event-index l.history)) l.fn.text l.text;
    }
