use Rattle.std.proofs.Common.{drop, map, string_bytes}
use Rattle.serde_json.specs.Data.{string}
use Rattle.race_report_parts.specs.Written.{Lasts}
use Rattle.race_report_parts.specs.Pieces.{LeavesItems}
use Rattle.race_report_parts.proofs.strings.push_strings.Given as goal

-- the texts that are left
abbrev pub invariant-loop-string : goal.invariant-loop-string
invariant-loop-string l =
    record {
      lasts : Lasts l.fn.text l.text;
      leaves : LeavesItems l.before (map string (map string_bytes l.strings))
          l.later (map string (map string_bytes (drop l.string-index l.strings))) l.fn.text l.text;
    }
