use denote.Param.Send.{sendable}
use Rattle.std.proofs.Common.{Some, ap, ◌∙◌, arith}
use Rattle.core_code.specs.Program.{core}
use Rattle.transfer.proofs.Movable.{finished_send, finished_sync}
use Rattle.summary_store.specs.Passes.{PassView}
use Rattle.summary_store.specs.Setups.{setup_of}
use Rattle.demand_pool.proofs.After.{after_take, after_leave, stays_on}
use Rattle.demand_pool.proofs.rest.finish.Goals as goal

pub returns-in_default-clause-left : goal.returns-in_default-clause-left
returns-in_default-clause-left g c =
    let inv = c.loop-i.invariant in
    (after_leave (setup_of (core g.L.StoreRun.program) g.L.Ledger.parts) c.loop-i.value.0 c.take_at.new.value.0
    c.loop-i.pass.number _ inv.number c.in_default.ensures.left (inv.agrees ∙ ap Some inv.free)).0

pub returns-in_default-clause-stays : goal.returns-in_default-clause-stays
returns-in_default-clause-stays g c =
    let u = setup_of (core g.L.StoreRun.program) g.L.Ledger.parts in
    let inv = c.loop-i.invariant in
    let before = c.loop-i.value.0 in
    let behind = c.take_at.new.value.0 in
    let free = inv.agrees ∙ ap Some inv.free in
    let a = after_leave u before behind c.loop-i.pass.number _ inv.number c.in_default.ensures.left free in
    stays_on u c.args.value.now.0 before behind inv.stays a.1

pub turn_at-requires-in-loop-i-clause-agrees : goal.turn_at-requires-in-loop-i-clause-agrees
turn_at-requires-in-loop-i-clause-agrees g c =
    let inv = c.loop-i.invariant in
    let told = c.in-Some.ensures in
    (after_take (setup_of (core g.L.StoreRun.program) g.L.Ledger.parts) c.loop-i.value.0 c.take_at.new.value.0
    c.loop-i.pass.number c.in-Some.m c.take_at.new.pass _ told.taken (inv.agrees ∙ ap Some inv.free) told.holds).0

pub loop-i-preserved : goal.loop-i-preserved
loop-i-preserved g c =
    let u = setup_of (core g.L.StoreRun.program) g.L.Ledger.parts in
    let inv = c.loop-i.invariant in
    let told = c.in-Some.ensures in
    let turn = c.in_ok-turn_at.ensures in
    let start = c.args.value.now.0 in
    let before = c.loop-i.value.0 in
    let between = c.take_at.new.value.0 in
    let behind = c.turn_at-in-loop-i.new.value.0 in
    let free = inv.agrees ∙ ap Some inv.free in
    let a =
    after_take u before between c.loop-i.pass.number c.in-Some.m c.take_at.new.pass _ told.taken free told.holds in
    record {
      number = turn.number ∙ ap (λ (p : PassView). p.number) told.holds ∙ inv.number;
      free = turn.free;
      agrees = turn.agrees;
      taken = omega (arith, a.2, turn.takes, inv.taken);
      stays = stays_on u start between behind (stays_on u start before between inv.stays a.1) turn.stays;
    }

pub law-requires-send-P : goal.law-requires-send-P
law-requires-send-P g c κs within = search (sendable, finished_send)

pub law-requires-sync-P : goal.law-requires-sync-P
law-requires-sync-P g c κs within = search (sendable, finished_sync)

pub meet-requires-send-P : goal.meet-requires-send-P
meet-requires-send-P g c κs within = search (sendable, finished_send)

pub meet-requires-sync-P : goal.meet-requires-sync-P
meet-requires-sync-P g c κs within = search (sendable, finished_sync)

pub take_at-requires-send-P : goal.take_at-requires-send-P
take_at-requires-send-P g c κs within = search (sendable, finished_send)

pub take_at-requires-sync-P : goal.take_at-requires-sync-P
take_at-requires-sync-P g c κs within = search (sendable, finished_sync)

pub law-requires-2-send-P : goal.law-requires-2-send-P
law-requires-2-send-P g c κs within = search (sendable, finished_send)

pub law-requires-2-sync-P : goal.law-requires-2-sync-P
law-requires-2-sync-P g c κs within = search (sendable, finished_sync)
