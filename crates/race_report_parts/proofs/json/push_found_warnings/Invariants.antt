use Rattle.std.proofs.Common.{[], drop}
use Rattle.std.specs.List.{flat_map}
use Rattle.core_code.specs.Program.{core}
use Rattle.race_report_parts.specs.Written.{Lasts}
use Rattle.race_report_parts.specs.Json as said
use Rattle.race_report_parts.specs.Pieces.{LeavesItems}
use Rattle.race_report_parts.proofs.json.push_found_warnings.Given as goal

-- the warnings that are left
abbrev pub invariant-loop-number : goal.invariant-loop-number
invariant-loop-number l =
    record {
      lasts : Lasts l.fn.text l.text;
      leaves : LeavesItems [] (flat_map (said.warning_values (core l.program)) l.found)
          l.later (flat_map (said.warning_values (core l.program)) (drop l.number l.found)) l.fn.text l.text;
    }
