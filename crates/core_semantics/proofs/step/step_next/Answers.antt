use Rattle.std.proofs.Common.{sym, ap}
use Rattle.core_semantics.specs.Steps.{Goes, after}
use Rattle.core_semantics.specs.View.{callers_of, store_of}
use Rattle.core_semantics.proofs.step.step_next.Goals as goal

pub returns-in-Sync : goal.returns-in-Sync
returns-in-Sync c =
    rw c.in-Sync.is (c.lock.ensures (store_of c.args.store.now) (callers_of c.args.running.now))

pub returns-in-Unlock : goal.returns-in-Unlock
returns-in-Unlock c =
    rw c.in-Unlock.is
    (ap (λ s. Goes (after s)) (sym (c.end_lock.ensures (store_of c.args.store.now) (callers_of c.args.running.now))))
