use Rattle.std.proofs.Common.{arith}
use Rattle.typed_core.proofs.Answering.{flag-none, flag-turn, flag-end}
use Rattle.typed_core.proofs.typing.flag_all.Goals as goal

pub loop-class-init : goal.loop-class-init
loop-class-init c = flag-none c.args.flags.now

pub loop-class-preserved : goal.loop-class-preserved
loop-class-preserved c =
    flag-turn c.args.classes.now c.loop-class.class-index _ c.args.flags.now c.loop-class.flags c.flag.new.flags
    c.loop-class-test.true c.loop-class.invariant c.flag.ensures

pub returns : goal.returns
returns c =
    flag-end c.args.classes.now c.loop-class.class-index c.args.flags.now c.loop-class.flags
    (omega (arith, c.loop-class-test.false)) c.loop-class.invariant
