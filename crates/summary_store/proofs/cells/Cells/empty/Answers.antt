use Rattle.std.proofs.Common.{length, ap, arith}
use Rattle.summary_store.proofs.cells.Cells.empty.Goals as goal

pub push_reserved-requires : goal.push_reserved-requires
push_reserved-requires g c =
    omega (arith, c.loop-i.invariant.count, c.loop-i.invariant.room, c.loop-i.cells.ok.0, c.loop-i-test.true)

pub loop-i-preserved : goal.loop-i-preserved
loop-i-preserved g c =
    let more = ap length c.push_reserved.ensures.items in
    record {
      count = omega (arith, more, c.loop-i.invariant.count);
      room = omega (arith, c.push_reserved.ensures.capacity, c.loop-i.invariant.room);
    }
