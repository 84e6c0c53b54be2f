use Rattle.std.proofs.Common.{arith}
use Rattle.typed_core.proofs.Coming.{comes-none, comes-turn, comes-end}
use Rattle.typed_core.proofs.reaching.Reach.come_to_all.Goals as goal

pub loop-m-init : goal.loop-m-init
loop-m-init c = comes-none c.args.self.now

pub loop-m-preserved : goal.loop-m-preserved
loop-m-preserved c =
    comes-turn c.args.methods.now c.loop-m.m-index _ c.args.self.now c.loop-m.self c.come_to.new.self
    c.loop-m-test.true c.loop-m.invariant c.in_ok-come_to.ensures

pub returns : goal.returns
returns c =
    comes-end c.args.methods.now c.loop-m.m-index c.args.self.now c.loop-m.self
    (omega (arith, c.loop-m-test.false)) c.loop-m.invariant
