use Rattle.std.proofs.Common.{◌≡◌, ◌++◌, drop}
use Rattle.access_domain.specs.Numbered.{read_accesses, AreNumbered}
use Rattle.transfer.proofs.reading.records_of.Given as goal

abbrev pub invariant-loop-record : goal.invariant-loop-record
invariant-loop-record l =
    record {
      made : l.made.items ++ read_accesses l.table (drop l.record-index l.records) ≡
          read_accesses l.table l.records;
      numbers : AreNumbered l.table (drop l.record-index l.records);
    }
