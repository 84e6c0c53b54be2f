use Rattle.std.proofs.Common.{◌≡◌, ◌+◌, ◌-◌, suc, sym, ◌∙◌, arith}
use Rattle.core_code.specs.Program.{core}
use Rattle.core_semantics.specs.Legs.{runs}
use Rattle.core_semantics.specs.View.{state_of}
use Rattle.core_ways.proofs.LegSteps.{end-on, end-here, end-none, from-none, reads-here, reads-on}
use Rattle.core_ways.proofs.driving.run_leg.Goals as goal

pub loop-step-preserved : goal.loop-step-preserved
loop-step-preserved c =
    let at = c.loop-step in
    let n = c.args.leg.now.steps in
    let count : n - at.step ≡ suc (n - (at.step + 1)) = omega (arith, c.loop-step-test.true) in
    record {
      end =
          end-on (core c.args.program.now) c.args.leg.now.thread (n - at.step) (n - (at.step + 1)) at.step at.turns.now
          (state_of at.machine) (state_of c.advance.new.machine) c.in_ok-rest.field-0 c.in-Some.rest count
          c.in_ok-rest.ensures.step c.in-Some.is
          ∙ at.invariant.end;
      reads =
          reads-on (core c.args.program.now) c.args.leg.now.thread (n - at.step) (n - (at.step + 1)) at.turns.now
          (state_of at.machine) (state_of c.advance.new.machine) c.in_ok-rest.field-0 c.in-Some.rest at.objects
          c.advance.new.objects count c.in_ok-rest.ensures.step c.in-Some.is c.in_ok-rest.ensures.reads
          ∙ at.invariant.reads;
    }

pub returns-in_default-clause-reads : goal.returns-in_default-clause-reads
returns-in_default-clause-reads c =
    let at = c.loop-step in
    let n = c.args.leg.now.steps in
    let count : n - at.step ≡ suc (n - (at.step + 1)) = omega (arith, c.loop-step-test.true) in
    reads-here (core c.args.program.now) c.args.leg.now.thread (n - at.step) (n - (at.step + 1)) at.turns.now
    (state_of at.machine) (state_of c.advance.new.machine) c.in_ok-rest.field-0 at.objects c.advance.new.objects count
    c.in_ok-rest.ensures.step c.in_default.is c.in_ok-rest.ensures.reads
    ∙ at.invariant.reads

pub returns-in_default-clause-end : goal.returns-in_default-clause-end
returns-in_default-clause-end c =
    let at = c.loop-step in
    let n = c.args.leg.now.steps in
    let count : n - at.step ≡ suc (n - (at.step + 1)) = omega (arith, c.loop-step-test.true) in
    sym (from-none (runs (core c.args.program.now) c.args.leg.now.thread n c.args.leg.now.turns
    (state_of c.args.machine.now)))
    ∙ sym at.invariant.end
    ∙ end-here (core c.args.program.now) c.args.leg.now.thread (n - at.step) (n - (at.step + 1)) at.step at.turns.now
    (state_of at.machine) (state_of c.advance.new.machine) c.in_ok-rest.field-0 count c.in_ok-rest.ensures.step
    c.in_default.is

pub returns-clause-end : goal.returns-clause-end
returns-clause-end c =
    let at = c.loop-step in
    let n = c.args.leg.now.steps in
    let none : n - at.step ≡ 0 = omega (arith, c.loop-step-test.false) in
    sym (from-none (runs (core c.args.program.now) c.args.leg.now.thread n c.args.leg.now.turns
    (state_of c.args.machine.now)))
    ∙ sym at.invariant.end
    ∙ end-none (core c.args.program.now) c.args.leg.now.thread (n - at.step) at.step at.turns.now (state_of at.machine)
    none
