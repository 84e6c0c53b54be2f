use Rattle.std.proofs.Common.{drop}
use Rattle.std.specs.List.{flat_map}
use Rattle.core_code.specs.Program.{core}
use Rattle.race_report_parts.specs.Written.{Lasts, Leaves}
use Rattle.race_report_parts.specs.Report as said
use Rattle.race_report_parts.proofs.summary_lines.push_accesses.Given as goal

-- the records that are left
abbrev pub invariant-loop-access : goal.invariant-loop-access
invariant-loop-access l =
    record {
      lasts : Lasts l.fn.text l.text;
      leaves : Leaves (flat_map (said.access_line (core l.program) (record { 0 = l.number })) l.accesses)
          (flat_map (said.access_line (core l.program) (record { 0 = l.number })) (drop l.access-index l.accesses))
          l.fn.text l.text;
    }
