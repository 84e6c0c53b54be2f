use Rattle.access_domain.specs.Numbered.{read_accesses}
use Rattle.transfer.proofs.ReadPaths.{record-in, records-in, records-turn, records-done}
use Rattle.transfer.proofs.reading.records_of.Goals as goal

pub loop-record-preserved : goal.loop-record-preserved
loop-record-preserved c =
    let table = c.args.table.now in
    let records = c.args.records.now in
    let at = c.loop-record in
    record {
      made =
          records-turn table records at.record-index _ c.loop-record-test.true at.made.items c.push.new.self.items
          (read_accesses table records) c.in_ok-record_of.field-0 c.in_ok-push.ensures.items
          c.in_ok-record_of.ensures at.invariant.made;
      numbers = records-in table records at.record-index at.invariant.numbers;
    }

pub record_of-requires : goal.record_of-requires
record_of-requires c =
    record-in c.args.table.now c.args.records.now c.loop-record.record-index _ c.loop-record-test.true
    c.loop-record.invariant.numbers

pub returns : goal.returns
returns c =
    let table = c.args.table.now in
    let records = c.args.records.now in
    let at = c.loop-record in
    records-done table records at.record-index at.made.items (read_accesses table records)
    c.loop-record-test.false at.invariant.made
