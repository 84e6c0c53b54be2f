use Rattle.std.proofs.Common.{drop}
use Rattle.std.specs.List.{flat_map}
use Rattle.core_code.specs.Program.{core}
use Rattle.race_report_parts.specs.Written.{Lasts, Leaves}
use Rattle.race_report_parts.specs.Report as said
use Rattle.race_report_parts.proofs.lines.push_places.Given as goal

-- the places that are left
abbrev pub invariant-loop-place : goal.invariant-loop-place
invariant-loop-place l =
    record {
      lasts : Lasts l.fn.text l.text;
      leaves : Leaves (flat_map (said.at_line (core l.program)) l.places)
          (flat_map (said.at_line (core l.program)) (drop l.place-index l.places)) l.fn.text l.text;
    }
