use Rattle.std.proofs.Common.{◌≡◌, ◌+◌, replicate, rules}
use Rattle.row_links.proofs.Opening.{kept_at_start}
use Rattle.row_links.proofs.rows.Rows.new.Goals as goal

pub invariant_of-result-2 : goal.invariant_of-result-2
invariant_of-result-2 c = let cell_of_is : c.in_ok-vec.field-0.items ≡ replicate c.args.nodes 0 = search rules in
    let uses_are : c.in_ok-uses.uses.items ≡ replicate (c.args.nodes + c.args.lists) 0 = search rules in
    kept_at_start c.args.nodes c.args.lists c.in_ok-new.field-0 c.open_each.new.cells _
    c.in_ok-vec.field-0.items c.open_each.new.list_of.items c.in_ok-uses.uses.items c.in_ok-each_alone.field-0.items
    c.open_each.ensures c.cells-2.view_is c.requires c.in_ok-new.ensures cell_of_is uses_are c.in_ok-each_alone.ensures
    c.ranges.nodes.fits
