use Rattle.std.proofs.Common.{sym, ◌∙◌}
use Rattle.core_code.specs.Program.{core}
use Rattle.core_semantics.specs.View.{state_of}
use Rattle.witness_build_walks.proofs.TurnedSteps.{took-none, took-turn}
use Rattle.witness_build_walks.proofs.walk.turn_on.Goals as goal

pub returns-then-not-takes_turn : goal.returns-then-not-takes_turn
returns-then-not-takes_turn c =
    took-none (core c.args.program.now) c.args.thread c.args.rest.now (state_of c.args.machine.now)
    (state_of c.advance.new.self) c.in_ok-left.field-0 c.in-Some.left c.args.turns.now.items c.args.takes_turn
    c.requires c.if-not-takes_turn.true c.in_ok-left.ensures c.in-Some.is

pub returns : goal.returns
returns c =
    took-turn (core c.args.program.now) c.args.thread c.args.rest.now (state_of c.args.machine.now)
    (state_of c.advance.new.self) c.in_ok-left.field-0 c.in-Some.left c.in-Some-next_turn.turn c.args.turns.now.items
    c.push.new.self.items c.args.takes_turn c.requires c.if-not-takes_turn.false c.in_ok-left.ensures c.in-Some.is
    (sym c.next_turn.ensures ∙ c.in-Some-next_turn.is) c.in_ok-push.ensures.items
