use Rattle.core_semantics.proofs.StoredCells.{put_cells}
use Rattle.core_semantics.proofs.store.Cells.put.Goals as goal

pub returns-clause-ok : goal.returns-clause-ok
returns-clause-ok c =
    put_cells c.args.self.now.stored c.insert.new.self c.args.object.now c.in_ok-copied.field-0 c.args.field
    c.args.value c.in_ok-copied.ensures c.in_ok-insert.ensures.updates
