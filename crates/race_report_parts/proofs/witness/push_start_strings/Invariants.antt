use Rattle.std.proofs.Common.{drop, map}
use Rattle.serde_json.specs.Data.{string}
use Rattle.core_code.specs.Program.{core}
use Rattle.race_report_parts.specs.Marks as said
use Rattle.race_report_parts.specs.Written.{Lasts}
use Rattle.race_report_parts.specs.Pieces.{LeavesItems}
use Rattle.race_report_parts.proofs.witness.push_start_strings.Given as goal

-- the start paths that are left
abbrev pub invariant-loop-start : goal.invariant-loop-start
invariant-loop-start l =
    record {
      lasts : Lasts l.fn.text l.text;
      leaves : LeavesItems l.before (map string (map (said.start_text (core l.program)) l.objects))
          l.later (map string (map (said.start_text (core l.program)) (drop l.start-index l.objects))) l.fn.text l.text;
    }
