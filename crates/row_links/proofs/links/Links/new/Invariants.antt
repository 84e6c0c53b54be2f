use Rattle.row_links.specs.Lists.{all_in}
use Rattle.row_links.specs.Rings.{AreRings}
use Rattle.row_links.proofs.links.Links.new.Given as goal

abbrev pub invariant-loop-node : goal.invariant-loop-node
invariant-loop-node l = record {
  rings : AreRings l.nodes l.next.items l.before.items (all_in l.row l.node l.rows);
}
