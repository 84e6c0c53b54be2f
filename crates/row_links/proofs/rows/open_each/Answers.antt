use Rattle.row_links.proofs.Opening.{none_opened, one_opened}
use Rattle.row_links.proofs.rows.open_each.Goals as goal

pub loop-list-init : goal.loop-list-init
loop-list-init c = record {
  opened = none_opened c.args.lists c.args.count c.args.cells.now c.args.list_of.now.items c.requires.cells
      c.requires.list_of;
}

pub loop-list-preserved : goal.loop-list-preserved
loop-list-preserved c = record {
  opened = one_opened c.args.lists c.args.count c.loop-list.list c.loop-list.cells c.turn.new.cells
      c.loop-list.list_of.items c.turn.new.list_of.items c.loop-list.invariant.opened c.loop-list-test.true
      c.requires.room c.turn.ensures.cells c.turn.ensures.list_of;
}
