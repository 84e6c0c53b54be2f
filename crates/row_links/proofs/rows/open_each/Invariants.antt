use Rattle.row_links.specs.Cells.{AreOpened}
use Rattle.row_links.proofs.rows.open_each.Given as goal

abbrev pub invariant-loop-list : goal.invariant-loop-list
invariant-loop-list l = record {
  opened : AreOpened l.lists l.count l.list l.cells l.list_of.items;
}
