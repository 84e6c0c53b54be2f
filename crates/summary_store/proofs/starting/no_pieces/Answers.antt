use Rattle.std.proofs.Common.{length, Option, None, ap, arith}
use Rattle.std.specs.Arc.{arc_value}
use Rattle.std.proofs.lemmas.List.{length-replicate}
use Rattle.summary_store.proofs.Keeping.{length-pieces_of, pieces_of-push}
use Rattle.summary_store.proofs.starting.no_pieces.Goals as goal

pub push_reserved-requires : goal.push_reserved-requires
push_reserved-requires g c =
    let l = ap length c.loop-i.invariant.items in
    omega (
      arith,
      length-pieces_of arc_value c.loop-i.table.items,
      length-replicate c.loop-i._i (let n : Option g.row.P.Denot = None in n),
      c.loop-i.table.ok.0,
      c.loop-i.invariant.room,
      c.loop-i-test.true,
    )

pub loop-i-preserved : goal.loop-i-preserved
loop-i-preserved g c = record {
  items = pieces_of-push arc_value _ _ c.loop-i._i c.push_reserved.ensures.items c.loop-i.invariant.items;
  room = omega (arith, c.push_reserved.ensures.capacity, c.loop-i.invariant.room);
}
