use Rattle.std.proofs.Common.{ℕ, ◌<◌, List, [], length, sym, subst, arith}
use Rattle.row_links.specs.Lists.{node_count}
use Rattle.row_links.proofs.Keeping.{in_cells, in_list_of, in_uses, open_in_uses, home_low, some_use, use_fits}
use Rattle.row_links.proofs.Keeping.{kept_used, kept_open, kept_freed}
use Rattle.row_links.proofs.rows.Rows.move_to.Goals as goal

pub index_mut-requires-2 : goal.index_mut-requires-2
index_mut-requires-2 c = let s = c.self.inside in
    let low = subst (λ (ls : List (List ℕ)). c.args.node < node_count ls) (sym c.self.view_is) c.requires.node in
    let below = in_uses s.nodes s.cells s.free s.cell_of.items s.list_of.items s.uses.items s.open_cells.items
    c.self.invariant
    c.args.node c.index.result.now low c.index.ensures in omega (arith, below, s.uses.ok.0)

pub overflow_sub-index_mut : goal.overflow_sub-index_mut
overflow_sub-index_mut c = let s = c.self.inside in
    let low = subst (λ (ls : List (List ℕ)). c.args.node < node_count ls) (sym c.self.view_is) c.requires.node in
    some_use s.nodes s.cells s.free s.cell_of.items s.list_of.items s.uses.items s.open_cells.items c.self.invariant
    c.args.node c.index.result.now c.index_mut-2.result.now low c.index.ensures c.index_mut-2.ensures.value

pub index_mut-requires-3 : goal.index_mut-requires-3
index_mut-requires-3 c = let s = c.self.inside in
    let low_l = subst (λ (ls : List (List ℕ)). c.args.list < length ls) (sym c.self.view_is) c.requires.list in
    let below = open_in_uses s.nodes s.cells s.free s.cell_of.items s.list_of.items s.uses.items
    s.open_cells.items c.self.invariant
    c.args.list c.index-2.result.now low_l c.index-2.ensures in omega (arith, below, s.uses.ok.0)

pub overflow_add-index_mut : goal.overflow_add-index_mut
overflow_add-index_mut c = let s = c.self.inside in
    let low = subst (λ (ls : List (List ℕ)). c.args.node < node_count ls) (sym c.self.view_is) c.requires.node in
    let low_l = subst (λ (ls : List (List ℕ)). c.args.list < length ls) (sym c.self.view_is) c.requires.list in
    let fits = use_fits s.nodes s.cells s.free s.cell_of.items s.list_of.items s.uses.items s.open_cells.items
    c.self.invariant
    c.args.node c.args.list c.index.result.now c.index-2.result.now c.index_mut-2.result.now c.index_mut-3.result.now
    low low_l c.index.ensures c.index-2.ensures c.index_mut-2.ensures.value c.index_mut-3.ensures.value in
    omega (arith, fits)

pub index-requires-3 : goal.index-requires-3
index-requires-3 c = let s = c.self.inside in
    let low = subst (λ (ls : List (List ℕ)). c.args.node < node_count ls) (sym c.self.view_is) c.requires.node in
    let below = in_list_of s.nodes s.cells s.free s.cell_of.items s.list_of.items s.uses.items s.open_cells.items
    c.self.invariant
    c.args.node c.index.result.now low c.index.ensures in omega (arith, below, s.list_of.ok.0)

pub index-open_cell-requires : goal.index-open_cell-requires
index-open_cell-requires c = let s = c.self.inside in
    let low = subst (λ (ls : List (List ℕ)). c.args.node < node_count ls) (sym c.self.view_is) c.requires.node in
    let below = home_low s.nodes s.cells s.free s.cell_of.items s.list_of.items s.uses.items s.open_cells.items
    c.self.invariant
    c.args.node c.index.result.now c.index-3.result.now low c.index.ensures c.index-3.ensures in
    omega (arith, below, s.open_cells.ok.0)

pub index-requires-4 : goal.index-requires-4
index-requires-4 c = let s = c.self.inside in
    let low = subst (λ (ls : List (List ℕ)). c.args.node < node_count ls) (sym c.self.view_is) c.requires.node in
    let below = in_uses s.nodes s.cells s.free s.cell_of.items s.list_of.items s.uses.items s.open_cells.items
    c.self.invariant
    c.args.node c.index.result.now low c.index.ensures in omega (arith, below, s.uses.ok.0)

pub turn-requires-clause-cell : goal.turn-requires-clause-cell
turn-requires-clause-cell c = let s = c.self.inside in
    let low = subst (λ (ls : List (List ℕ)). c.args.node < node_count ls) (sym c.self.view_is) c.requires.node in
    in_cells s.nodes s.cells s.free s.cell_of.items s.list_of.items s.uses.items s.open_cells.items c.self.invariant
    c.args.node c.index.result.now low c.index.ensures

pub turn-requires-clause-column : goal.turn-requires-clause-column
turn-requires-clause-column c = let s = c.self.inside in
    let low = subst (λ (ls : List (List ℕ)). c.args.node < node_count ls) (sym c.self.view_is) c.requires.node in
    in_list_of s.nodes s.cells s.free s.cell_of.items s.list_of.items s.uses.items s.open_cells.items c.self.invariant
    c.args.node c.index.result.now low c.index.ensures

pub invariant_of-self : goal.invariant_of-self
invariant_of-self c = let s = c.self.inside in
    let low = subst (λ (ls : List (List ℕ)). c.args.node < node_count ls) (sym c.self.view_is) c.requires.node in
    let low_l = subst (λ (ls : List (List ℕ)). c.args.list < length ls) (sym c.self.view_is) c.requires.list in
    kept_freed s.nodes s.cells s.free s.cell_of.items s.list_of.items s.uses.items s.open_cells.items c.self.invariant
    c.args.node c.args.list c.index.result.now c.index-2.result.now c.index_mut-2.result.now c.index_mut-3.result.now
    c.move_last.new.self [] [] [] low low_l c.index.ensures c.index-2.ensures c.index_mut-2.ensures.value
    c.index_mut-3.ensures.value c.move_last.ensures
    c.index-4.result.now c.index-3.result.now c.index-open_cell.result.now c.turn.new.cells c.turn.new.list_of.items
    c.index-4.ensures c.if-index-eq0.true c.index-3.ensures c.index-open_cell.ensures c.if-open_cell-old.true
    c.turn.ensures.cells c.turn.ensures.list_of

pub invariant_of-self-else-open_cell-old : goal.invariant_of-self-else-open_cell-old
invariant_of-self-else-open_cell-old c = let s = c.self.inside in
    let low = subst (λ (ls : List (List ℕ)). c.args.node < node_count ls) (sym c.self.view_is) c.requires.node in
    let low_l = subst (λ (ls : List (List ℕ)). c.args.list < length ls) (sym c.self.view_is) c.requires.list in
    kept_open s.nodes s.cells s.free s.cell_of.items s.list_of.items s.uses.items s.open_cells.items c.self.invariant
    c.args.node c.args.list c.index.result.now c.index-2.result.now c.index_mut-2.result.now c.index_mut-3.result.now
    c.move_last.new.self [] [] [] low low_l c.index.ensures c.index-2.ensures c.index_mut-2.ensures.value
    c.index_mut-3.ensures.value c.move_last.ensures
    c.index-3.result.now c.index-open_cell.result.now c.index-3.ensures c.index-open_cell.ensures
    c.if-open_cell-old.false

pub invariant_of-self-else-index-eq0 : goal.invariant_of-self-else-index-eq0
invariant_of-self-else-index-eq0 c = let s = c.self.inside in
    let low = subst (λ (ls : List (List ℕ)). c.args.node < node_count ls) (sym c.self.view_is) c.requires.node in
    let low_l = subst (λ (ls : List (List ℕ)). c.args.list < length ls) (sym c.self.view_is) c.requires.list in
    kept_used s.nodes s.cells s.free s.cell_of.items s.list_of.items s.uses.items s.open_cells.items c.self.invariant
    c.args.node c.args.list c.index.result.now c.index-2.result.now c.index_mut-2.result.now c.index_mut-3.result.now
    c.move_last.new.self [] [] [] low low_l c.index.ensures c.index-2.ensures c.index_mut-2.ensures.value
    c.index_mut-3.ensures.value c.move_last.ensures
    c.index-4.result.now c.index-4.ensures c.if-index-eq0.false
