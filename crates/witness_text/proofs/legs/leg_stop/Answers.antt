use Rattle.core_code.specs.Program.{core}
use Rattle.core_semantics.specs.Legs.{runs}
use Rattle.core_semantics.specs.View.{state_of}
use Rattle.witness_text.proofs.LegsRun.{comes-through, stops, turns-over}
use Rattle.witness_text.proofs.legs.leg_stop.Goals as goal

pub returns-in-Halted : goal.returns-in-Halted
returns-in-Halted c =
    let leg = c.args.leg.now in
    stops leg.steps c.in-Halted.steps
    (runs (core c.args.program.now) leg.thread leg.steps leg.turns (state_of c.args.machine.now))
    (state_of c.run_leg.new.machine) c.in_ok-steps.field-0 c.in_ok-steps.ensures.end c.in-Halted.is

pub returns-then-left-eq0 : goal.returns-then-left-eq0
returns-then-left-eq0 c =
    let leg = c.args.leg.now in
    comes-through leg.steps c.in-Came.left
    (runs (core c.args.program.now) leg.thread leg.steps leg.turns (state_of c.args.machine.now))
    (state_of c.run_leg.new.machine) c.in_ok-steps.field-0 c.in_ok-steps.ensures.end c.in-Came.is c.if-left-eq0.true

pub returns : goal.returns
returns c =
    let leg = c.args.leg.now in
    turns-over leg.steps c.in-Came.left
    (runs (core c.args.program.now) leg.thread leg.steps leg.turns (state_of c.args.machine.now))
    (state_of c.run_leg.new.machine) c.in_ok-steps.field-0 c.in_ok-steps.ensures.end c.in-Came.is c.if-left-eq0.false
