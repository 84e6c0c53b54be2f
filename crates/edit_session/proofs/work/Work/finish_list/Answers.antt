use Rattle.std.proofs.Common.{ℕ, List, sym, subst}
use Rattle.edit_session.proofs.Listing.{fewer_left, has_first, is_next, listing_begins, listing_ends, listing_goes_on}
use Rattle.edit_session.proofs.Listing.{IsListing, node_low, other, to_there}
use Rattle.edit_session.proofs.work.Work.finish_list.Goals as goal

pub loop-node-init : goal.loop-node-init
loop-node-init c = listing_begins c.args.self.now c.args.lists.now c.args.list c.requires

pub finish-requires : goal.finish-requires
finish-requires c =
    let first = has_first c.loop-node.lists c.args.list c.in-Some.node (sym c.in-Some.ensures) in
    is_next c.args.self.now c.args.lists.now c.args.list c.requires c.loop-node.self c.loop-node.lists
    c.loop-node.invariant c.in-Some.node first

pub move_to-requires-clause-node : goal.move_to-requires-clause-node
move_to-requires-clause-node c =
    let first = has_first c.loop-node.lists c.args.list c.in-Some.node (sym c.in-Some.ensures) in
    node_low c.args.self.now c.args.lists.now c.args.list c.requires c.loop-node.self c.loop-node.lists
    c.loop-node.invariant c.in-Some.node first

pub move_to-requires-clause-list : goal.move_to-requires-clause-list
move_to-requires-clause-list c =
    let first = has_first c.loop-node.lists c.args.list c.in-Some.node (sym c.in-Some.ensures) in
    to_there c.args.self.now c.args.lists.now c.args.list c.requires c.loop-node.self c.loop-node.lists
    c.loop-node.invariant c.in-Some.node first c.finish.new.self c.in-Ok.goes_to c.in-Ok.ensures

pub loop-node-smaller : goal.loop-node-smaller
loop-node-smaller c =
    let first = has_first c.loop-node.lists c.args.list c.in-Some.node (sym c.in-Some.ensures) in
    fewer_left c.loop-node.lists _ c.args.list c.in-Some.node c.in-Ok.goes_to c.loop-node.invariant.each_once first
    (other c.args.self.now c.args.lists.now c.args.list c.requires c.loop-node.self c.loop-node.lists
    c.loop-node.invariant c.in-Some.node first c.finish.new.self c.in-Ok.goes_to c.in-Ok.ensures) c.move_to.ensures

pub loop-node-preserved : goal.loop-node-preserved
loop-node-preserved c =
    let first = has_first c.loop-node.lists c.args.list c.in-Some.node (sym c.in-Some.ensures) in
    subst
    (λ (ls : List (List ℕ)). IsListing c.args.self.now c.args.lists.now c.args.list c.finish.new.self ls)
    (sym c.move_to.ensures)
    (listing_goes_on c.args.self.now c.args.lists.now c.args.list c.requires c.loop-node.self c.loop-node.lists
    c.loop-node.invariant c.in-Some.node first c.finish.new.self c.in-Ok.goes_to c.in-Ok.ensures)

pub returns : goal.returns
returns c =
    listing_ends c.args.self.now c.args.lists.now c.args.list c.requires c.loop-node.self c.loop-node.lists
    c.loop-node.invariant (sym c.in_default.ensures)
