use Rattle.std.proofs.Common.{Option, subst, ap}
use Rattle.core_code.specs.Program.{core}
use Rattle.core_semantics.specs.declared.pending.NextStep.{NextStep}
use Rattle.core_semantics.specs.Steps.{after}
use Rattle.core_semantics.specs.View.{IsNext, spot_of, store_of}
use Rattle.core_semantics.proofs.ThreadSteps.{settled, settled_answer}
use Rattle.core_semantics.proofs.step.step_running.Goals as goal

pub step_next-requires-clause-ready : goal.step_next-requires-clause-ready
step_next-requires-clause-ready c =
    subst (λ (next : Option NextStep). IsNext next c.unfold_next.new.pending) c.in-Some.is c.in-Ok.ensures.next

pub returns-in_default : goal.returns-in_default
returns-in_default c =
    ap after (settled (store_of c.args.store.now) c.args.running.now c.args.locks.now c.unfold_next.new.pending
    c.in_default.ensures.same)

pub returns : goal.returns
returns c =
    let ready = subst (λ (next : Option NextStep). IsNext next c.unfold_next.new.pending) c.in-Some.is
    c.in-Ok.ensures.next in
    settled_answer (core c.args.given.now.program.now) c.args.given.now.turn c.args.given.now.others.now
    (store_of c.args.store.now) c.args.running.now c.args.locks.now c.unfold_next.new.pending c.in-Some.next
    (after (spot_of (store_of c.step_next.new.store) c.step_next.new.running c.step_next.new.locks))
    c.step_next.result c.in-Ok.ensures.same ready.1 c.step_next.ensures
