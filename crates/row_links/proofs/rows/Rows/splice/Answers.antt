use Rattle.std.proofs.Common.{ℕ, ◌<◌, List, length, sym, subst}
use Rattle.row_links.proofs.Keeping.{open_in_uses, left, fresh_is_low, fresh_in_list_of, kept_spliced}
use Rattle.row_links.proofs.rows.Rows.splice.Goals as goal

pub unnamed-fresh-requires-clause-open_cell : goal.unnamed-fresh-requires-clause-open_cell
unnamed-fresh-requires-clause-open_cell c = let s = c.self.inside in
    let low_from = subst (λ (ls : List (List ℕ)). c.args.from < length ls) (sym c.self.view_is) c.requires.from in
    let below = open_in_uses s.nodes s.cells s.free s.cell_of.items s.list_of.items s.uses.items
    s.open_cells.items c.self.invariant
    c.args.from c.index-open_cell.result.now low_from c.index-open_cell.ensures in
    subst (λ (us : List ℕ). c.index-open_cell.result.now < length us) (sym c.as_slice.ensures.value) below

pub unnamed-fresh-requires-clause-left : goal.unnamed-fresh-requires-clause-left
unnamed-fresh-requires-clause-left c = let s = c.self.inside in
    let low_from = subst (λ (ls : List (List ℕ)). c.args.from < length ls) (sym c.self.view_is) c.requires.from in
    left s.nodes s.cells s.free s.cell_of.items s.list_of.items s.uses.items s.open_cells.items c.self.invariant
    c.args.from c.index-open_cell.result.now c.as_slice.result.now c.as_slice.ensures.value low_from
    c.index-open_cell.ensures

pub turn-requires-clause-cell : goal.turn-requires-clause-cell
turn-requires-clause-cell c = let s = c.self.inside in
    let low_from = subst (λ (ls : List (List ℕ)). c.args.from < length ls) (sym c.self.view_is) c.requires.from in
    let low_to = subst (λ (ls : List (List ℕ)). c.args.to < length ls) (sym c.self.view_is) c.requires.to in
    fresh_is_low s.nodes s.cells s.free s.cell_of.items s.list_of.items s.uses.items s.open_cells.items c.self.invariant
    c.args.from c.args.to c.index-open_cell.result.now c.unnamed-fresh.result c.turn_all.new.cells c.as_slice.result.now
    c.as_slice.ensures.value low_from low_to c.requires.other c.index-open_cell.ensures c.unnamed-fresh.ensures
    c.turn_all.ensures.cells

pub turn-requires-clause-column : goal.turn-requires-clause-column
turn-requires-clause-column c = let s = c.self.inside in
    let low_from = subst (λ (ls : List (List ℕ)). c.args.from < length ls) (sym c.self.view_is) c.requires.from in
    fresh_in_list_of s.nodes s.cells s.free s.cell_of.items s.list_of.items s.uses.items s.open_cells.items
    c.self.invariant
    c.args.from c.index-open_cell.result.now c.unnamed-fresh.result c.turn_all.new.list_of.items c.as_slice.result.now
    c.as_slice.ensures.value low_from c.index-open_cell.ensures c.unnamed-fresh.ensures c.turn_all.ensures.room

pub invariant_of-self : goal.invariant_of-self
invariant_of-self c = let s = c.self.inside in
    let low_from = subst (λ (ls : List (List ℕ)). c.args.from < length ls) (sym c.self.view_is) c.requires.from in
    let low_to = subst (λ (ls : List (List ℕ)). c.args.to < length ls) (sym c.self.view_is) c.requires.to in
    kept_spliced s.nodes s.cells s.free s.cell_of.items s.list_of.items s.uses.items s.open_cells.items c.self.invariant
    c.args.from c.args.to c.index-open_cell.result.now c.unnamed-fresh.result c.append.new.self c.turn_all.new.cells
    c.turn.new.cells c.turn_all.new.list_of.items c.turn.new.list_of.items c.as_slice.result.now
    c.as_slice.ensures.value low_from low_to c.requires.other c.index-open_cell.ensures c.unnamed-fresh.ensures
    c.append.ensures c.turn_all.ensures.cells c.turn_all.ensures.told c.turn_all.ensures.room c.turn.ensures.cells
    c.turn.ensures.list_of
