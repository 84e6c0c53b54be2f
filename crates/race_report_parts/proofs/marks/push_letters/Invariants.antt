use Rattle.std.proofs.Common.{drop}
use Rattle.std.specs.List.{flat_map}
use Rattle.race_report_parts.specs.Marks as said
use Rattle.race_report_parts.specs.Written.{Lasts, Leaves}
use Rattle.race_report_parts.proofs.marks.push_letters.Given as goal

-- the turns that are left
abbrev pub invariant-loop-turn : goal.invariant-loop-turn
invariant-loop-turn l =
    record {
      lasts : Lasts l.fn.text l.text;
      leaves : Leaves (flat_map said.turn_text l.turns) (flat_map said.turn_text (drop l.turn-index l.turns))
          l.fn.text l.text;
    }
