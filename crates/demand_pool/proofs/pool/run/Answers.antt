use denote.Param.Send.{sendable}
use Rattle.std.proofs.Common.{◌+◌, ◌<◌, List, length, sym, ap, ◌∙◌, subst, arith}
use Rattle.std.specs.Arc.{arc_value}
use Rattle.core_code.specs.Counting.{analysed_methods}
use Rattle.core_code.specs.Program.{core}
use Rattle.core_code.specs.declared.program.Program.{Program}
use Rattle.access_domain.specs.Summaries.{outcome_of}
use Rattle.transfer.proofs.Movable.{finished_send, finished_sync}
use Rattle.summary_store.specs.Kept.{pieces_of}
use Rattle.summary_store.specs.declared.machine.Event.{Event}
use Rattle.summary_store.specs.Laws.{edges}
use Rattle.summary_store.specs.Machine.{IsComplete}
use Rattle.summary_store.specs.Setups.{setup_of}
use Rattle.demand_pool.proofs.CompleteTables.{found_right}
use Rattle.demand_pool.proofs.pool.run.Goals as goal

pub finish_all-requires-clause-most : goal.finish_all-requires-clause-most
finish_all-requires-clause-most g c =
    let n = g.L.Ledger.parts in
    let P : Program → Type 0 = λ p.
    length (analysed_methods (core p)) + edges (setup_of (core p) n) < c.in_ok-most.most in
    subst P (c.deref.ensures ∙ c.requires.program) (let most = c.in_ok-most.ensures n in omega arith)

pub outcomes_of-requires : goal.outcomes_of-requires
outcomes_of-requires g c =
    let right = c.close-history.ensures.right in
    let pieces = ap (pieces_of arc_value) c.as_slice.ensures.value ∙ c.close-history.ensures.table in
    let found = found_right g.L.StoreRun.program g.L.Ledger.parts _ c.as_slice.result.now _ pieces right
    (right.complete c.in_ok-finish_all.ensures.gone) in
    λ m. found m ∙ ap (λ (p : Program). outcome_of (core p) m) (sym c.requires.program)

pub start-requires-send-P : goal.start-requires-send-P
start-requires-send-P g c κs within = search (sendable, finished_send)

pub start-requires-sync-P : goal.start-requires-sync-P
start-requires-sync-P g c κs within = search (sendable, finished_sync)

pub into_locked-value-requires-send-P : goal.into_locked-value-requires-send-P
into_locked-value-requires-send-P g c κs within = search (sendable, finished_send)

pub into_locked-value-requires-sync-P : goal.into_locked-value-requires-sync-P
into_locked-value-requires-sync-P g c κs within = search (sendable, finished_sync)

pub close-history-requires-send-P : goal.close-history-requires-send-P
close-history-requires-send-P g c κs within = search (sendable, finished_send)

pub close-history-requires-sync-P : goal.close-history-requires-sync-P
close-history-requires-sync-P g c κs within = search (sendable, finished_sync)

pub returns-clause-complete : goal.returns-clause-complete
returns-clause-complete g c =
    let P : List Event → Type 0 = λ h. IsComplete (setup_of (core g.L.StoreRun.program) g.L.Ledger.parts) h in
    subst P (sym c.close-history.ensures.history)
    (c.close-history.ensures.right.complete c.in_ok-finish_all.ensures.gone)
