use Rattle.core_code.proofs.WalkParts.{numbered_step}
use Rattle.core_code.proofs.walk.set_entries.Goals as goal

pub loop-m-preserved : goal.loop-m-preserved
loop-m-preserved c =
    numbered_step c.args.methods.now c.loop-m.m-index _ c.args.number c.args.numbers.now c.loop-m.numbers
    c.set_entry.new.numbers c.loop-m-test.true c.loop-m.invariant c.set_entry.ensures
