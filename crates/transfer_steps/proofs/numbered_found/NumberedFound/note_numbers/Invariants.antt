use Rattle.std.proofs.Common.{List, [], length, drop}
use Rattle.access_paths.specs.declared.path.Path.{Path}
use Rattle.access_paths.specs.Table.{IsTable}
use Rattle.call_subst.specs.Numbered.{read_paths, AreBelow}
use Rattle.transfer_steps.specs.Marks.{marks, LeadsTo}
use Rattle.transfer_steps.specs.Numbered.{read_found, AreFoundNumbers}
use Rattle.transfer_steps.proofs.numbered_found.NumberedFound.note_numbers.Given as goal

abbrev pub invariant-loop-number : goal.invariant-loop-number
invariant-loop-number l =
    (table : List Path) → IsTable table → AreFoundNumbers table l.fn.self → AreBelow (length table) l.numbers →
    LeadsTo (read_found table l.fn.self) (marks [] (read_paths table l.numbers)) (read_found table l.self)
    (marks [] (read_paths table (drop l.number-index l.numbers)))
    × AreFoundNumbers table l.self
