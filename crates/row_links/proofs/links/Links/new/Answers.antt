use Rattle.std.proofs.Common.{ap, ◌+◌, ◌∙◌, arith}
use Rattle.std.specs.List.{range_with_len}
use Rattle.row_links.proofs.Starting.{length-all_in, none_yet, one_more, last_is_low, all_are_in}
use Rattle.row_links.proofs.Linking.{index_is}
use Rattle.row_links.proofs.links.Links.new.Goals as goal

pub loop-node-init : goal.loop-node-init
loop-node-init c = record {
  rings = none_yet c.args.nodes c.args.row c.args.rows c.in_ok-next.next.items c.in_ok-before.before.items c.requires
      (c.in_ok-next.ensures ∙ ap (range_with_len 0) c.in-Some.ensures.1)
      (c.in_ok-before.ensures ∙ ap (range_with_len 0) c.in-Some.ensures.1);
}

pub link-requires-clause-next : goal.link-requires-clause-next
link-requires-clause-next c = let rings = c.loop-node.invariant.rings in
    let all = length-all_in c.args.row c.loop-node.node c.args.rows in
    let next_long = rings.next_length in let before_long = rings.before_length in let low = c.requires in
    let last_is = index_is c.loop-node.before.items (c.args.nodes + c.args.row) c.index-last.result.now
    (omega (arith, all, before_long, low)) c.index-last.ensures in
    let last_low = last_is_low c.args.nodes c.args.row c.args.rows c.loop-node.node c.index-last.result.now
    c.loop-node.next.items c.loop-node.before.items c.requires rings last_is in
    omega (arith, all, next_long, last_low)

pub loop-node-preserved : goal.loop-node-preserved
loop-node-preserved c = let rings = c.loop-node.invariant.rings in
    let all = length-all_in c.args.row c.loop-node.node c.args.rows in
    let before_long = rings.before_length in let low = c.requires in
    let last_is = index_is c.loop-node.before.items (c.args.nodes + c.args.row) c.index-last.result.now
    (omega (arith, all, before_long, low)) c.index-last.ensures in record {
      rings = one_more c.args.nodes c.args.row c.args.rows c.loop-node.node c.index-last.result.now
          c.loop-node.next.items c.loop-node.before.items c.link.new.next.items c.link.new.before.items
          c.link-in-loop-node.new.next.items c.link-in-loop-node.new.before.items c.requires c.loop-node-test.true rings
          last_is c.link.ensures.next c.link.ensures.before c.link-in-loop-node.ensures.next
          c.link-in-loop-node.ensures.before;
    }

pub invariant_of-result : goal.invariant_of-result
invariant_of-result c = (all_are_in c.args.nodes c.args.row c.args.rows c.loop-node.node c.loop-node.next.items
    c.loop-node.before.items c.requires c.loop-node.invariant.rings c.loop-node.auto.node-end
    c.loop-node-test.false).linked

pub returns : goal.returns
returns c = (all_are_in c.args.nodes c.args.row c.args.rows c.loop-node.node c.loop-node.next.items
    c.loop-node.before.items c.requires c.loop-node.invariant.rings c.loop-node.auto.node-end
    c.loop-node-test.false).seen
