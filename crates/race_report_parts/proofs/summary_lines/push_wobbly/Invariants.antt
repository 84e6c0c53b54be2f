use Rattle.std.proofs.Common.{drop, map, string_bytes}
use Rattle.std.specs.List.{flat_map}
use Rattle.race_report_parts.specs.Written.{Lasts, Leaves}
use Rattle.race_report_parts.specs.Report as said
use Rattle.race_report_parts.proofs.summary_lines.push_wobbly.Given as goal

-- the paths that are left
abbrev pub invariant-loop-path : goal.invariant-loop-path
invariant-loop-path l =
    record {
      lasts : Lasts l.fn.text l.text;
      leaves : Leaves (flat_map said.wobbly_line (map string_bytes l.paths))
          (flat_map said.wobbly_line (map string_bytes (drop l.path-index l.paths))) l.fn.text l.text;
    }
