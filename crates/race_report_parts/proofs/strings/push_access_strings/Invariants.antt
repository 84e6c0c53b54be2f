use Rattle.std.proofs.Common.{drop, map}
use Rattle.serde_json.specs.Data.{string}
use Rattle.core_code.specs.Program.{core}
use Rattle.race_report_parts.specs.Told as told
use Rattle.race_report_parts.specs.Written.{Lasts}
use Rattle.race_report_parts.specs.Pieces.{LeavesItems}
use Rattle.race_report_parts.proofs.strings.push_access_strings.Given as goal

-- the records that are left
abbrev pub invariant-loop-access : goal.invariant-loop-access
invariant-loop-access l =
    record {
      lasts : Lasts l.fn.text l.text;
      leaves : LeavesItems l.before (map string
          (map (told.access_text (core l.program) (record { 0 = l.number })) l.accesses))
          l.later (map string (map (told.access_text (core l.program) (record { 0 = l.number }))
          (drop l.access-index l.accesses))) l.fn.text l.text;
    }
