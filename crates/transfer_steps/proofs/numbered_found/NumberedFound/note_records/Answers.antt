use Rattle.std.proofs.Common.{List, []}
use Rattle.access_domain.specs.declared.numbered.NumberedAccess.{NumberedAccess}
use Rattle.access_domain.specs.Numbered.{read_accesses}
use Rattle.transfer_steps.specs.Marks.{marks}
use Rattle.transfer_steps.specs.Numbered.{read_found}
use Rattle.transfer_steps.proofs.FoundNumbers.{numbered-at, each-led, each-ended, each-done}
use Rattle.transfer_steps.proofs.numbered_found.NumberedFound.note_records.Goals as goal

pub loop-record-init : goal.loop-record-init
loop-record-init c = λ table once found low. (λ new r m. m, found)

pub loop-record-preserved : goal.loop-record-preserved
loop-record-preserved c = λ table once found low.
    let records : List NumberedAccess = c.args.records.now in
    let at = c.loop-record in
    let before = at.invariant table once found low in
    let below = numbered-at table records at.record-index _ c.loop-record-test.true low in (
      each-led table records at.record-index _ c.loop-record-test.true (read_found table c.args.self.now)
          (read_found table at.self) (read_found table c.note_record.new.self)
          (marks (read_accesses table records) []) before.0 (c.in-Ok.ensures.found table once before.1 below),
      c.in-Ok.ensures.numbers table once before.1 below,
    )

pub returns-in-Err-clause-found : goal.returns-in-Err-clause-found
returns-in-Err-clause-found c = λ table once found low.
    let records : List NumberedAccess = c.args.records.now in
    let at = c.loop-record in
    let before = at.invariant table once found low in
    each-ended table records at.record-index _ c.loop-record-test.true (read_found table c.args.self.now)
    (read_found table at.self) (read_found table c.note_record.new.self) (marks (read_accesses table records) [])
    c.in-Err.stop before.0
    (c.in-Err.ensures.found table once before.1
    (numbered-at table records at.record-index _ c.loop-record-test.true low))

pub returns-clause-found : goal.returns-clause-found
returns-clause-found c = λ table once found low.
    let records : List NumberedAccess = c.args.records.now in
    let at = c.loop-record in
    each-done table records at.record-index c.loop-record-test.false (read_found table c.args.self.now)
    (read_found table at.self) (marks (read_accesses table records) []) (at.invariant table once found low).0
