use denote.Param.Send.{sendable}
use Rattle.std.proofs.Common.{◌≡◌, ℕ, ◌+◌, ◌<◌, List, true, refl, sym, ap, ◌∙◌}
use Rattle.std.proofs.Common.{subst, arith, get_or}
use Rattle.racer_base.specs.declared.ids.MethodId.{MethodId}
use Rattle.core_code.specs.Calls.{is_analysed}
use Rattle.core_code.specs.Core.{Core}
use Rattle.core_code.specs.Program.{core}
use Rattle.core_code.proofs.Analysed.{analysed_of}
use Rattle.transfer.proofs.Movable.{finished_send, finished_sync}
use Rattle.summary_store.specs.declared.machine.Event.{Event}
use Rattle.summary_store.specs.Machine.{IsDone, replay}
use Rattle.summary_store.specs.Setups.{setup_of}
use Rattle.demand_pool.proofs.After.{parked_turn, published_turn}
use Rattle.demand_pool.proofs.Turns.{row_here, wants, found_more, found_none, all_found, pass_more, done_more, at_any}
use Rattle.demand_pool.proofs.rest.turn_at.Goals as goal

pub row-row-requires : goal.row-row-requires
row-row-requires g c =
    row_here (core g.L.StoreRun.program) c.args.given.now.rows.now c.args.m c.requires.rows c.requires.analysed

pub demand_at-requires-clause-next : goal.demand_at-requires-clause-next
demand_at-requires-clause-next g c κs within =
    let inv = c.loop-i.invariant in
    wants (core g.L.StoreRun.program) c.args.given.now.rows.now c.args.m c.requires.rows c.row-row.result.now
    c.row-row.ensures c.loop-i.i c.loop-i.pass.hand c.loop-i.pass.found (record { 0 = 0 }) inv.hand inv.found
    c.loop-i-test.true

pub loop-i-init : goal.loop-i-init
loop-i-init g c =
    record {
      number = refl;
      hand = c.requires.holds.0;
      found = c.requires.holds.1;
      same = refl;
      pieces = found_none (core g.L.StoreRun.program) c.row-row.result.now _ c.in_ok-callees.ensures.items;
      done = λ k e low. absurd (omega (arith, low));
      room = omega (arith, c.in_ok-callees.ensures.capacity);
    }

pub loop-i-preserved : goal.loop-i-preserved
loop-i-preserved g c =
    let d : MethodId = record { 0 = 0 } in
    let program = core g.L.StoreRun.program in
    let inv = c.loop-i.invariant in
    let row = c.row-row.result.now in
    let found = c.in-Found.ensures.found in
    let pass = pass_more c.loop-i.pass _ _ _ _ c.in-Found.ensures.found_pass inv.number inv.hand inv.found in
    let more = c.push_reserved.ensures.items in
    let u = setup_of program g.L.Ledger.parts in
    let kept = ap (λ v. v.0) c.in-Found.ensures.found_value in
    let P : MethodId → Type 0 = λ x. IsDone (replay u c.loop-i.value.0) x in
    let Q : List Event → Type 0 = λ h.
    (k : ℕ) (e : MethodId) → k < c.loop-i.i + 1 → IsDone (replay u h) (get_or row k e) in
    let here = at_any P row c.loop-i.i d c.loop-i-test.true c.in-Found.ensures.found_done in
    record {
      number = pass.0;
      hand = pass.1;
      found = pass.2;
      same = kept ∙ inv.same;
      pieces =
          found_more program row c.loop-i.i d c.loop-i.callees.items c.push_reserved.new.self.items
          c.in-Found.piece c.loop-i-test.true more found.0 (ap core found.1) inv.pieces;
      done = subst Q (sym kept) (done_more P row c.loop-i.i inv.done here);
      room = omega (arith, c.push_reserved.ensures.capacity, inv.room);
    }

pub returns-in-Parked-clause-agrees : goal.returns-in-Parked-clause-agrees
returns-in-Parked-clause-agrees g c =
    let u = setup_of (core g.L.StoreRun.program) g.L.Ledger.parts in
    let inv = c.loop-i.invariant in
    let told = c.in-Parked.ensures in
    (parked_turn u _ _ _ _ _ _ c.args.m _ _ inv.same inv.number c.requires.agrees c.requires.holds.0
    told.parked_pass _ _ told.parked_history).0

pub returns-in-Parked-clause-takes : goal.returns-in-Parked-clause-takes
returns-in-Parked-clause-takes g c =
    let u = setup_of (core g.L.StoreRun.program) g.L.Ledger.parts in
    let inv = c.loop-i.invariant in
    let told = c.in-Parked.ensures in
    (parked_turn u _ _ _ _ _ _ c.args.m _ _ inv.same inv.number c.requires.agrees c.requires.holds.0
    told.parked_pass _ _ told.parked_history).1

pub returns-in-Parked-clause-stays : goal.returns-in-Parked-clause-stays
returns-in-Parked-clause-stays g c =
    let u = setup_of (core g.L.StoreRun.program) g.L.Ledger.parts in
    let inv = c.loop-i.invariant in
    let told = c.in-Parked.ensures in
    (parked_turn u _ _ _ _ _ _ c.args.m _ _ inv.same inv.number c.requires.agrees c.requires.holds.0
    told.parked_pass _ _ told.parked_history).2

pub returns-clause-agrees : goal.returns-clause-agrees
returns-clause-agrees g c =
    let u = setup_of (core g.L.StoreRun.program) g.L.Ledger.parts in
    let inv = c.loop-i.invariant in
    let told = c.publish_at.ensures in
    (published_turn u _ _ _ _ _ _ c.args.m _ _ inv.same inv.number c.requires.agrees c.requires.holds.0
    told.pass _ told.history).0

pub returns-clause-takes : goal.returns-clause-takes
returns-clause-takes g c =
    let u = setup_of (core g.L.StoreRun.program) g.L.Ledger.parts in
    let inv = c.loop-i.invariant in
    let told = c.publish_at.ensures in
    (published_turn u _ _ _ _ _ _ c.args.m _ _ inv.same inv.number c.requires.agrees c.requires.holds.0
    told.pass _ told.history).1

pub returns-clause-stays : goal.returns-clause-stays
returns-clause-stays g c =
    let u = setup_of (core g.L.StoreRun.program) g.L.Ledger.parts in
    let inv = c.loop-i.invariant in
    let told = c.publish_at.ensures in
    (published_turn u _ _ _ _ _ _ c.args.m _ _ inv.same inv.number c.requires.agrees c.requires.holds.0
    told.pass _ told.history).2

pub analyse-requires-clause-callees : goal.analyse-requires-clause-callees
analyse-requires-clause-callees g c =
    all_found (core g.L.StoreRun.program) c.args.given.now.rows.now c.args.m c.requires.rows c.row-row.result.now
    c.row-row.ensures c.loop-i.i _ c.loop-i.callees.items _ (ap core c.requires.program) c.as_slice.ensures.value
    c.loop-i-test.false c.requires.analysed c.loop-i.invariant.pieces

pub analyse-requires-clause-analysed : goal.analyse-requires-clause-analysed
analyse-requires-clause-analysed g c =
    subst (λ (p : Core). is_analysed p c.args.m ≡ true) (sym (ap core c.requires.program))
    (analysed_of (core g.L.StoreRun.program) c.args.m c.requires.analysed)

pub demand_at-requires-send-P : goal.demand_at-requires-send-P
demand_at-requires-send-P g c κs within = search (sendable, finished_send)

pub demand_at-requires-sync-P : goal.demand_at-requires-sync-P
demand_at-requires-sync-P g c κs within = search (sendable, finished_sync)

pub publish_at-requires-send-P : goal.publish_at-requires-send-P
publish_at-requires-send-P g c κs within = search (sendable, finished_send)

pub publish_at-requires-sync-P : goal.publish_at-requires-sync-P
publish_at-requires-sync-P g c κs within = search (sendable, finished_sync)
