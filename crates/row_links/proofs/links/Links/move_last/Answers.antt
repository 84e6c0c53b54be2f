use Rattle.row_links.proofs.Linking.{before_low, next_low, last_low, all_moved}
use Rattle.row_links.proofs.links.Links.move_last.Goals as goal

pub link-requires-clause-next : goal.link-requires-clause-next
link-requires-clause-next c = let s = c.self.inside in
    before_low s.nodes s.next.items s.before.items c.args.self.now c.self.invariant c.self.view_is c.args.node
    c.index.result.now c.requires.node c.index.ensures

pub link-requires-clause-before : goal.link-requires-clause-before
link-requires-clause-before c = let s = c.self.inside in
    next_low s.nodes s.next.items s.before.items c.args.self.now c.self.invariant c.self.view_is c.args.node
    c.index-2.result.now c.requires.node c.index-2.ensures

pub link-requires-2-clause-next : goal.link-requires-2-clause-next
link-requires-2-clause-next c = let s = c.self.inside in
    last_low s.nodes s.next.items s.before.items c.args.self.now c.self.invariant c.self.view_is c.args.node c.args.row
    c.index.result.now c.index-2.result.now c.index-last.result.now c.link.new.next.items c.link.new.before.items
    c.requires.node c.requires.row c.index.ensures c.index-2.ensures c.link.ensures.next c.link.ensures.before
    c.index-last.ensures

pub invariant_of-self : goal.invariant_of-self
invariant_of-self c = let s = c.self.inside in
    (all_moved s.nodes s.next.items s.before.items c.args.self.now c.self.invariant c.self.view_is c.args.node
    c.args.row
    c.index.result.now c.index-2.result.now c.index-last.result.now c.link.new.next.items c.link.new.before.items
    c.link-2.new.next.items c.link-2.new.before.items c.link-3.new.next.items c.link-3.new.before.items
    c.requires.node c.requires.row c.index.ensures c.index-2.ensures c.link.ensures.next c.link.ensures.before
    c.index-last.ensures c.link-2.ensures.next c.link-2.ensures.before c.link-3.ensures.next
    c.link-3.ensures.before).linked

pub returns : goal.returns
returns c = let s = c.self.inside in
    (all_moved s.nodes s.next.items s.before.items c.args.self.now c.self.invariant c.self.view_is c.args.node
    c.args.row
    c.index.result.now c.index-2.result.now c.index-last.result.now c.link.new.next.items c.link.new.before.items
    c.link-2.new.next.items c.link-2.new.before.items c.link-3.new.next.items c.link-3.new.before.items
    c.requires.node c.requires.row c.index.ensures c.index-2.ensures c.link.ensures.next c.link.ensures.before
    c.index-last.ensures c.link-2.ensures.next c.link-2.ensures.before c.link-3.ensures.next
    c.link-3.ensures.before).seen
