use Rattle.std.proofs.Common.{drop}
use Rattle.std.specs.List.{flat_map}
use Rattle.core_code.specs.Program.{core}
use Rattle.race_report_parts.specs.Written.{Lasts, Leaves}
use Rattle.race_report_parts.specs.Report as said
use Rattle.race_report.proofs.text.push_found_warnings.Given as goal

-- the warnings that are left
abbrev pub invariant-loop-number : goal.invariant-loop-number
invariant-loop-number l =
    record {
      lasts : Lasts l.fn.text l.text;
      leaves : Leaves (flat_map (said.warning_lines (core l.program)) l.found)
          (flat_map (said.warning_lines (core l.program)) (drop l.number l.found)) l.fn.text l.text;
    }
