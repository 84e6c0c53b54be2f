use Rattle.std.proofs.Common.{refl, sym, ap, ◌∙◌}
use Rattle.core_code.specs.Tree.{tree_of}
use Rattle.core_semantics.specs.Steps.{after, lock_step, lock_with, locking, monitor_of, top}
use Rattle.core_semantics.specs.View.{behind_at, frame_of, spot_at}
use Rattle.core_semantics.proofs.Answered.{along}
use Rattle.core_semantics.proofs.locks.lock.Goals as goal

pub returns-in-Ok-monitor_of : goal.returns-in-Ok-monitor_of
returns-in-Ok-monitor_of c = λ store callers.
    let frame = c.args.frame.now in
    let others = c.args.others.now in
    let body = tree_of c.args.body.now in
    let s = behind_at store frame callers c.args.locks.now in
    let same =
    ap (monitor_of c.args.kind) (sym c.in-Ok.ensures) ∙ sym c.monitor_of.ensures ∙ c.in-Ok-monitor_of.is in
    along (locking others s body c.in-Ok-monitor_of.monitor)
    (lock_step others s c.args.kind body (top (frame_of frame)))
    (after (spot_at store frame callers c.args.locks.now))
    (after (spot_at store c.take.new.frame callers c.take.new.locks))
    c.take.result (ap (lock_with others s body) same) (c.take.ensures store callers)

pub returns-in-Err : goal.returns-in-Err
returns-in-Err c = λ store callers.
    let s = behind_at store c.args.frame.now callers c.args.locks.now in
    let same = ap (monitor_of c.args.kind) (sym c.in-Ok.ensures) ∙ sym c.monitor_of.ensures ∙ c.in-Err.is in
    (ap (lock_with c.args.others.now s (tree_of c.args.body.now)) same, refl)
