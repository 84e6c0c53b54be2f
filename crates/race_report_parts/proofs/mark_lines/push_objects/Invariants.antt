use Rattle.std.proofs.Common.{drop}
use Rattle.std.specs.List.{flat_map}
use Rattle.core_code.specs.Program.{core}
use Rattle.race_report_parts.specs.Written.{Lasts, Leaves}
use Rattle.race_report_parts.specs.Report as said
use Rattle.race_report_parts.proofs.mark_lines.push_objects.Given as goal

-- the objects that are left
abbrev pub invariant-loop-start : goal.invariant-loop-start
invariant-loop-start l =
    record {
      lasts : Lasts l.fn.text l.text;
      leaves : Leaves (flat_map (said.object_line (core l.program)) l.objects)
          (flat_map (said.object_line (core l.program)) (drop l.start-index l.objects)) l.fn.text l.text;
    }
