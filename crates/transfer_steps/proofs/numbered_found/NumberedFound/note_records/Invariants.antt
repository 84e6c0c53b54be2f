use Rattle.std.proofs.Common.{List, [], drop}
use Rattle.access_paths.specs.declared.path.Path.{Path}
use Rattle.access_paths.specs.Table.{IsTable}
use Rattle.access_domain.specs.Numbered.{read_accesses, AreNumbered}
use Rattle.transfer_steps.specs.Marks.{marks, LeadsTo}
use Rattle.transfer_steps.specs.Numbered.{read_found, AreFoundNumbers}
use Rattle.transfer_steps.proofs.numbered_found.NumberedFound.note_records.Given as goal

abbrev pub invariant-loop-record : goal.invariant-loop-record
invariant-loop-record l =
    (table : List Path) → IsTable table → AreFoundNumbers table l.fn.self → AreNumbered table l.records →
    LeadsTo (read_found table l.fn.self) (marks (read_accesses table l.records) []) (read_found table l.self)
    (marks (read_accesses table (drop l.record-index l.records)) [])
    × AreFoundNumbers table l.self
