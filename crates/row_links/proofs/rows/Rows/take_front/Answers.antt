use Rattle.std.proofs.Common.{ℕ, ◌<◌, List, sym, subst, arith}
use Rattle.row_links.specs.Lists.{node_count}
use Rattle.row_links.proofs.Keeping.{front_low, front_fits}
use Rattle.row_links.proofs.rows.Rows.take_front.Goals as goal

pub overflow_cast-first : goal.overflow_cast-first
overflow_cast-first c = let s = c.self.inside in let fits = front_fits s.nodes s.cells s.free s.cell_of.items
    s.list_of.items s.uses.items s.open_cells.items c.self.invariant
    c.args.from c.in_ok-first.field-0 (sym c.in_ok-first.ensures) in omega (arith, fits)

pub move_to-requires-clause-node : goal.move_to-requires-clause-node
move_to-requires-clause-node c = let s = c.self.inside in
    subst (λ (ls : List (List ℕ)). c.in_ok-first.field-0 < node_count ls) c.self.view_is
    (front_low s.nodes s.cells s.free s.cell_of.items s.list_of.items s.uses.items s.open_cells.items c.self.invariant
    c.args.from c.in_ok-first.field-0 (sym c.in_ok-first.ensures))
