use Rattle.std.proofs.Common.{◌∙◌}
use Rattle.core_semantics.proofs.CopiedCells.{all-copied, none-copied, one-copied}
use Rattle.core_semantics.proofs.store.Cells.copied.Goals as goal

pub loop-cell-preserved : goal.loop-cell-preserved
loop-cell-preserved c =
    let at = c.loop-cell in
    one-copied at.stored c.put_copy.new.stored c.args.self.now.stored c.in-Some.cell.now c.in-Some.value.now
    at.cell-iterator c.next.new.self at.invariant c.in-Some.ensures.steps c.in_ok-put_copy.ensures

pub loop-cell-init : goal.loop-cell-init
loop-cell-init c =
    none-copied c.new-stored.result c.args.self.now.stored c.into_iter-cell-iterator.result c.new-stored.ensures.empty
    (c.into_iter-cell-iterator.ensures.into_iter_gives ∙ c.iter-cell-items.ensures.rest) c.iter-cell-items.ensures.found

pub returns : goal.returns
returns c =
    all-copied c.loop-cell.stored c.args.self.now.stored c.loop-cell.cell-iterator c.loop-cell.invariant
    c.in-None.ensures.steps.0
