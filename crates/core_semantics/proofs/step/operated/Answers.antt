use Rattle.core_code.specs.Program.{core}
use Rattle.std.proofs.Common.{sym, ap, ◌∙◌, drop}
use Rattle.core_semantics.specs.Steps.{Goes, after, operated, returned}
use Rattle.core_semantics.specs.View.{behind_spot, callers_of, spot_of, store_of, todo_of}
use Rattle.core_semantics.proofs.Answered.{along}
use Rattle.core_semantics.proofs.ThreadSteps.{frees, ret_returns}
use Rattle.core_semantics.proofs.step.operated.Goals as goal

pub returns-then-frees_one : goal.returns-then-frees_one
returns-then-frees_one c =
    let running = c.args.running.now in
    let store = store_of c.args.store.now in
    frees (core c.args.given.now.program.now) (spot_of store running c.args.locks.now)
    (todo_of (drop 1 running.frame.pending)) c.args.op (sym c.frees_one.ensures ∙ c.if-frees_one.true)
    ∙ ap (λ s. Goes (after s)) (sym (c.unlock.ensures store (callers_of running)))

pub returns-in-Ret : goal.returns-in-Ret
returns-in-Ret c =
    let running = c.args.running.now in
    let locks = c.args.locks.now in
    let store = store_of c.args.store.now in
    let rest = todo_of (drop 1 running.frame.pending) in
    let s = spot_of store running locks in
    along (returned (behind_spot store running locks)) (operated (core c.args.given.now.program.now) s rest c.args.op)
    (after s) (after (spot_of store c.give_back.new.running locks)) c.give_back.result
    (ret_returns (core c.args.given.now.program.now) s rest c.args.op c.in-Ret.is
    (sym c.frees_one.ensures ∙ c.if-frees_one.false))
    (c.give_back.ensures store locks)

pub returns-in-Call : goal.returns-in-Call
returns-in-Call c = rw c.in-Call.is (c.call.ensures (store_of c.args.store.now) c.args.locks.now)
