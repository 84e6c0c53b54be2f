use Rattle.row_links.proofs.Linking.{first_some, first_none}
use Rattle.row_links.proofs.links.Links.first.Goals as goal

pub returns-then-first-self : goal.returns-then-first-self
returns-then-first-self c = let s = c.self.inside in
    first_some s.nodes s.next.items s.before.items c.args.self.now c.self.invariant c.self.view_is c.args.row
    c.index-first.result.now c.requires c.index-first.ensures c.if-first-self.true

pub returns-else-first-self : goal.returns-else-first-self
returns-else-first-self c = let s = c.self.inside in
    first_none s.nodes s.next.items s.before.items c.args.self.now c.self.invariant c.self.view_is c.args.row
    c.index-first.result.now c.requires c.index-first.ensures c.if-first-self.false
