use denote.Param.Send.{sendable}
use Rattle.std.proofs.Crossing.{crosses}
use Rattle.std.proofs.Common.{length, ap, ◌∙◌, arith}
use Rattle.std.specs.Prelude.{slice_index_or}
use Rattle.core_code.proofs.rows.CallRows.TheSendSync as rows
use Rattle.transfer.proofs.Movable.{finished_send, finished_sync, program_send, program_sync}
use Rattle.summary_store.proofs.store.Store.TheSendSync as store
use Rattle.summary_store.proofs.Keeping.{ok_then}
use Rattle.summary_store.proofs.Opening.{first_passes-length}
use Rattle.demand_pool.proofs.Passing.{free_at, number_at}
use Rattle.demand_pool.proofs.pool.work_all.Goals as goal

pub map_vec-requires-after_bounds : goal.map_vec-requires-after_bounds
map_vec-requires-after_bounds g c κs within i x low at =
    let free = free_at g.L.Ledger.parts i c.args.passes.items x c.requires.passes at low in
    (c.requires.program, c.requires.rows, free)

pub returns-clause-count : goal.returns-clause-count
returns-clause-count g c =
    let l = ap length c.requires.passes in
    let n = first_passes-length g.L.Ledger.parts in
    omega (arith, c.in_ok-map_vec.ensures.len, c.args.passes.ok.0, c.in_ok-map_vec.field-0.ok.0, n)

pub returns-clause-numbers : goal.returns-clause-numbers
returns-clause-numbers g c k d low =
    let l = ap length c.requires.passes in
    let n = first_passes-length g.L.Ledger.parts in
    let j = (c.in_ok-map_vec.ensures.each k d (omega (arith, n))).1 in
    let number = number_at g.L.Ledger.parts k c.args.passes.items j.job c.requires.passes j.job_read low in
    ok_then (slice_index_or c.in_ok-map_vec.field-0.items k d) j.call.met (λ p is. is.0 ∙ number)

pub returns-clause-worked : goal.returns-clause-worked
returns-clause-worked g c k d low =
    let l = ap length c.requires.passes in
    let n = first_passes-length g.L.Ledger.parts in
    let j = (c.in_ok-map_vec.ensures.each k d (omega (arith, n))).1 in
    ok_then (slice_index_or c.in_ok-map_vec.field-0.items k d) j.call.met (λ p is. is.1)

pub map_vec-requires-sync-F : goal.map_vec-requires-sync-F
map_vec-requires-sync-F g c κs within =
    let sl = c.type_bounds.send-L in
    let yl = c.type_bounds.sync-L in
    let yg = c.type_bounds.sync-G in
    let yr = c.type_bounds.sync-R in
    search (
      sendable,
      crosses,
      finished_send,
      finished_sync,
      program_send,
      program_sync,
      store.the_field_sync,
      rows.the_field_sync,
    ) depth 60 fits 50000
