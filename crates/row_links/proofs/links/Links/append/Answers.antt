use Rattle.std.proofs.Common.{length, ap, ◌∙◌, arith}
use Rattle.std.proofs.lemmas.List.{length-set}
use Rattle.row_links.proofs.Linking.{own_before_low, own_next_low, none_appended, all_appended}
use Rattle.row_links.proofs.links.Links.append.Goals as goal

pub returns-then-first-ring : goal.returns-then-first-ring
returns-then-first-ring c = let s = c.self.inside in
    none_appended s.nodes s.next.items s.before.items c.args.self.now c.self.invariant c.self.view_is c.args.from
    c.args.to c.index.result.now c.requires.other c.requires.from c.requires.to c.index.ensures c.if-first-ring.true

pub link-requires-clause-next : goal.link-requires-clause-next
link-requires-clause-next c = let s = c.self.inside in
    own_before_low s.nodes s.next.items s.before.items c.args.self.now c.self.invariant c.self.view_is c.args.to
    c.index-end.result.now c.requires.to c.index-end.ensures

pub link-requires-clause-before : goal.link-requires-clause-before
link-requires-clause-before c = let s = c.self.inside in
    own_next_low s.nodes s.next.items s.before.items c.args.self.now c.self.invariant c.self.view_is c.args.from
    c.index.result.now c.requires.from c.index.ensures

pub link-requires-2-clause-next : goal.link-requires-2-clause-next
link-requires-2-clause-next c = let s = c.self.inside in
    let long = ap length c.link.ensures.next ∙ length-set s.next.items c.index-end.result.now c.index.result.now in
    let low = own_before_low s.nodes s.next.items s.before.items c.args.self.now c.self.invariant c.self.view_is
    c.args.from c.index-2.result.now c.requires.from c.index-2.ensures in omega (arith, long, low)

pub invariant_of-self : goal.invariant_of-self
invariant_of-self c = let s = c.self.inside in
    (all_appended s.nodes s.next.items s.before.items c.args.self.now c.self.invariant c.self.view_is c.args.from
    c.args.to
    c.index-end.result.now c.index.result.now c.index-2.result.now c.link.new.next.items c.link.new.before.items
    c.link-2.new.next.items c.link-2.new.before.items c.link-3.new.next.items c.link-3.new.before.items
    c.requires.other c.requires.from c.requires.to c.index-end.ensures c.index.ensures c.index-2.ensures
    c.if-first-ring.false c.link.ensures.next c.link.ensures.before c.link-2.ensures.next c.link-2.ensures.before
    c.link-3.ensures.next c.link-3.ensures.before).linked

pub returns : goal.returns
returns c = let s = c.self.inside in
    (all_appended s.nodes s.next.items s.before.items c.args.self.now c.self.invariant c.self.view_is c.args.from
    c.args.to
    c.index-end.result.now c.index.result.now c.index-2.result.now c.link.new.next.items c.link.new.before.items
    c.link-2.new.next.items c.link-2.new.before.items c.link-3.new.next.items c.link-3.new.before.items
    c.requires.other c.requires.from c.requires.to c.index-end.ensures c.index.ensures c.index-2.ensures
    c.if-first-ring.false c.link.ensures.next c.link.ensures.before c.link-2.ensures.next c.link-2.ensures.before
    c.link-3.ensures.next c.link-3.ensures.before).seen
