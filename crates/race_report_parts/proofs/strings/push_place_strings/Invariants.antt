use Rattle.std.proofs.Common.{drop, map}
use Rattle.serde_json.specs.Data.{string}
use Rattle.core_code.specs.Program.{core}
use Rattle.race_report_parts.specs.Texts as parts
use Rattle.race_report_parts.specs.Written.{Lasts}
use Rattle.race_report_parts.specs.Pieces.{LeavesItems}
use Rattle.race_report_parts.proofs.strings.push_place_strings.Given as goal

-- the places that are left
abbrev pub invariant-loop-place : goal.invariant-loop-place
invariant-loop-place l =
    record {
      lasts : Lasts l.fn.text l.text;
      leaves : LeavesItems l.before (map string (map (parts.place_text (core l.program)) l.places))
          l.later (map string (map (parts.place_text (core l.program)) (drop l.place-index l.places))) l.fn.text l.text;
    }
