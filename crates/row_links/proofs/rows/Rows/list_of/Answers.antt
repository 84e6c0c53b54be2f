use Rattle.std.proofs.Common.{ℕ, ◌<◌, List, sym, subst, arith}
use Rattle.row_links.specs.Lists.{node_count, IsInList}
use Rattle.row_links.proofs.Keeping.{in_list_of, listed}
use Rattle.row_links.proofs.rows.Rows.list_of.Goals as goal

pub index-requires-2 : goal.index-requires-2
index-requires-2 c = let s = c.self.inside in
    let low = subst (λ (ls : List (List ℕ)). c.args.node < node_count ls) (sym c.self.view_is) c.requires in
    let below = in_list_of s.nodes s.cells s.free s.cell_of.items s.list_of.items s.uses.items s.open_cells.items
    c.self.invariant
    c.args.node c.index.result.now low c.index.ensures in omega (arith, below, s.list_of.ok.0)

pub returns : goal.returns
returns c = let s = c.self.inside in
    let low = subst (λ (ls : List (List ℕ)). c.args.node < node_count ls) (sym c.self.view_is) c.requires in
    subst (λ (ls : List (List ℕ)). IsInList ls c.args.node c.index-2.result.now) c.self.view_is
    (listed s.nodes s.cells s.free s.cell_of.items s.list_of.items s.uses.items s.open_cells.items c.self.invariant
    c.args.node c.index.result.now c.index-2.result.now low c.index.ensures c.index-2.ensures)
