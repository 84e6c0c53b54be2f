use Rattle.std.proofs.Common.{ℕ, ◌<◌, List, length, sym, ap, subst, ◌∙◌, arith}
use Rattle.std.proofs.lemmas.List.{length-set}
use Rattle.row_links.specs.Lists.{list_at, moved, spliced, node_count, HasEachOnce}
use Rattle.row_links.specs.Cells.{AreTold}
use Rattle.row_links.proofs.Lists.{length-moved, count-moved, each-moved, is_below}
use Rattle.row_links.proofs.Celling.{front_in}
use Rattle.row_links.proofs.Splicing.{fewer_left, same_splice, spliced_none, told-moved}
use Rattle.row_links.proofs.rows.turn_all.Goals as goal

pub turn-requires-clause-cell : goal.turn-requires-clause-cell
turn-requires-clause-cell c = is_below c.loop-cell.cells c.in-Some.cell c.args.from c.loop-cell.invariant.each
    (front_in c.args.from c.in-Some.cell c.loop-cell.cells (sym c.in-Some.ensures))

pub turn-requires-clause-column : goal.turn-requires-clause-column
turn-requires-clause-column c = let low = is_below c.loop-cell.cells c.in-Some.cell c.args.from
    c.loop-cell.invariant.each (front_in c.args.from c.in-Some.cell c.loop-cell.cells (sym c.in-Some.ensures)) in
    omega (arith, low, c.loop-cell.invariant.cell_count, c.loop-cell.invariant.room)

pub loop-cell-smaller : goal.loop-cell-smaller
loop-cell-smaller c = subst (λ (cs : List (List ℕ)). length (list_at cs c.args.from) < length
    (list_at c.loop-cell.cells c.args.from))
    (sym c.turn.ensures.cells)
    (fewer_left c.args.from c.args.to c.in-Some.cell c.loop-cell.cells c.requires.other (sym c.in-Some.ensures))

pub loop-cell-preserved : goal.loop-cell-preserved
loop-cell-preserved c = let old = c.loop-cell.invariant in let low_from = c.requires.from in
    let low_to = c.requires.to in
    let first = sym c.in-Some.ensures in
    let low = is_below c.loop-cell.cells c.in-Some.cell c.args.from old.each
    (front_in c.args.from c.in-Some.cell c.loop-cell.cells first) in
    let from_row : c.args.from < length c.loop-cell.cells = omega (arith, old.rows, low_from) in
    let to_row : c.args.to < length c.loop-cell.cells = omega (arith, old.rows, low_to) in
    let in_column : c.in-Some.cell < length c.loop-cell.list_of.items = omega (arith, low, old.cell_count, old.room) in
    record {
      each = subst HasEachOnce (sym c.turn.ensures.cells)
          (each-moved c.in-Some.cell c.args.to c.loop-cell.cells old.each low to_row);
      rows = ap length c.turn.ensures.cells ∙ length-moved c.in-Some.cell c.args.to c.loop-cell.cells ∙ old.rows;
      room = ap length c.turn.ensures.list_of
          ∙ length-set c.loop-cell.list_of.items c.in-Some.cell c.args.to ∙ old.room;
      cell_count = ap node_count c.turn.ensures.cells
          ∙ count-moved c.in-Some.cell c.args.to c.loop-cell.cells to_row (old.each.once c.in-Some.cell low)
          ∙ old.cell_count;
      told = subst (λ cs. AreTold cs c.turn.new.list_of.items) (sym c.turn.ensures.cells)
          (subst (λ column. AreTold (moved c.in-Some.cell c.args.to c.loop-cell.cells) column)
          (sym c.turn.ensures.list_of)
          (told-moved c.in-Some.cell c.args.to c.loop-cell.cells c.loop-cell.list_of.items to_row in_column old.told));
      whole = ap (spliced c.args.from c.args.to) c.turn.ensures.cells
          ∙ same_splice c.args.from c.args.to c.in-Some.cell c.loop-cell.cells old.each c.requires.other from_row to_row
          first ∙ old.whole;
    }

pub returns-clause-cells : goal.returns-clause-cells
returns-clause-cells c = let old = c.loop-cell.invariant in let low_from = c.requires.from in
    let low_to = c.requires.to in
    sym (spliced_none c.args.from c.args.to c.loop-cell.cells c.requires.other (omega (arith, old.rows, low_from))
    (omega (arith, old.rows, low_to)) (sym c.in_default.ensures)) ∙ old.whole
