use Rattle.std.proofs.Common.{sym, subst}
use Rattle.core_code.specs.declared.code.Op.{Op as CoreOp}
use Rattle.owner_domain.specs.Numbered.{read_state}
use Rattle.access_domain.specs.Operations.{op_effects}
use Rattle.transfer_steps.specs.Contexts.{given}
use Rattle.transfer_steps.specs.Noting.{IsWalked}
use Rattle.transfer_steps.proofs.Noting.{walk-ready}
use Rattle.transfer_steps.proofs.CallSteps.{step-called, step-calls}
use Rattle.transfer_steps.proofs.notes.Walk.operate.Goals as goal

pub returns-in-Call : goal.returns-in-Call
returns-in-Call c =
    let context = c.args.context.now in
    let new = c.call.new in
    subst (λ (op : CoreOp). IsWalked (given context) (op_effects (given context) context.locked c.args.site op)
    c.args.self.now c.args.state.now new.self new.state c.call.result) (sym c.in-Call.is) c.call.ensures

pub returns-in_default : goal.returns-in_default
returns-in_default c =
    let context = c.args.context.now in
    let g = given context in
    let old = c.args.self.now in
    let calls = old.calls in
    let called = c.requires.ready.calls.called in
    let new = c.step.new.self in
    let here = c.step.new.state in
    let r = c.step.result in
    let m = c.step.ensures in
    record {
      flow = m.flow;
      ready =
          walk-ready r g (record { notes = new; calls = calls }) here m.numbers
          (step-called old.notes.table new.table calls.keys called r m.table)
          (step-calls old.notes.table new.table calls.keys called r m.table g
          (op_effects g context.locked c.args.site c.args.op (read_state old.notes.table c.args.state.now))
          (read_state new.table here) old.notes.found new.found m.flow c.requires.ready.calls.found);
      table = m.table;
    }
