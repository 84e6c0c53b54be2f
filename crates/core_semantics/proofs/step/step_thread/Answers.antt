use Rattle.std.proofs.Common.{Option, Some, subst, sym}
use Rattle.core_code.specs.Program.{core}
use Rattle.core_semantics.specs.declared.thread.Running.{Running}
use Rattle.core_semantics.specs.declared.thread.Thread.{Thread}
use Rattle.core_semantics.specs.Answers.{IsAnswer}
use Rattle.core_semantics.specs.Steps.{thread_step}
use Rattle.core_semantics.specs.View.{seen_after, seen_of, store_of}
use Rattle.core_semantics.proofs.step.step_thread.Goals as goal

abbrev thread_with : Option Running → Thread → Thread
thread_with running t = record { running = running; locks = t.locks }

pub returns : goal.returns
returns c =
    let given = c.args.given.now in
    let thread = c.args.thread.now in
    let new : Thread = record {
      running = Some c.step_running.new.running;
      locks = c.step_running.new.locks;
    } in
    subst (λ (r : Option Running). IsAnswer (thread_step (core given.program.now) given.turn given.others.now
    (store_of c.args.store.now) (seen_of (thread_with r thread))) (seen_after c.args.store.now (thread_with r thread))
    (seen_after c.step_running.new.store new) c.in-Some-step_running.answer)
    (sym c.in-Some.is) c.in-Some-step_running.ensures
