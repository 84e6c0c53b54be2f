use Rattle.std.proofs.Common.{ap, ◌∙◌, arith, length}
use Rattle.std.proofs.lemmas.List.FromFn.{length-range_with_len}
use Rattle.row_links.proofs.Starting.{range_more}
use Rattle.row_links.proofs.links.each_alone.Goals as goal

pub push_reserved-requires : goal.push_reserved-requires
push_reserved-requires c = let long = ap length c.loop-node.invariant.items in
    omega (
      arith,
      length-range_with_len 0 c.loop-node.node,
      c.loop-node.column.ok.0,
      c.loop-node.invariant.room,
      c.loop-node-test.true,
    )

pub loop-node-preserved : goal.loop-node-preserved
loop-node-preserved c = record {
  items = c.push_reserved.ensures.items
      ∙ range_more c.loop-node.node c.loop-node.column.items c.loop-node.invariant.items;
  room = omega (arith, c.push_reserved.ensures.capacity, c.loop-node.invariant.room);
}
