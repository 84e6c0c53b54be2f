use Rattle.std.proofs.Common.{[], drop, map}
use Rattle.std.specs.List.{flat_map, enumerate_from}
use Rattle.core_code.specs.Core.{method_of}
use Rattle.core_code.specs.Program.{core}
use Rattle.race_report_parts.specs.Written.{Lasts}
use Rattle.race_report_parts.specs.Json as said
use Rattle.race_report_parts.specs.Pieces.{LeavesItems}
use Rattle.race_report_parts.proofs.json.push_found_summaries.Given as goal

-- the methods that are left
abbrev pub invariant-loop-number : goal.invariant-loop-number
invariant-loop-number l =
    record {
      lasts : Lasts l.fn.text l.text;
      leaves : LeavesItems [] (flat_map (said.summary_values (core l.program))
          (enumerate_from 0 (core l.program).methods))
          l.later (flat_map (said.summary_values (core l.program))
          (enumerate_from l.number (map method_of (drop l.number l.methods)))) l.fn.text l.text;
    }
