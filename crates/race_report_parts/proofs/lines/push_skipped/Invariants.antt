use Rattle.std.proofs.Common.{drop}
use Rattle.std.specs.List.{flat_map}
use Rattle.core_code.specs.Program.{core}
use Rattle.race_report_parts.specs.Written.{Lasts, Leaves}
use Rattle.race_report_parts.specs.Report as said
use Rattle.race_report_parts.proofs.lines.push_skipped.Given as goal

-- the places that are left
abbrev pub invariant-loop-place : goal.invariant-loop-place
invariant-loop-place l =
    record {
      lasts : Lasts l.fn.text l.text;
      leaves : Leaves (flat_map (said.skipped_line (core l.program)) (core l.program).skipped)
          (flat_map (said.skipped_line (core l.program)) (drop l.place-index l.place-items)) l.fn.text l.text;
    }
