use Rattle.std.proofs.Common.{sym, arith}
use Rattle.row_links.proofs.Keeping.{front_fits}
use Rattle.row_links.proofs.rows.Rows.front.Goals as goal

pub overflow_cast-result : goal.overflow_cast-result
overflow_cast-result c = let s = c.self.inside in let fits = front_fits s.nodes s.cells s.free s.cell_of.items
    s.list_of.items s.uses.items s.open_cells.items c.self.invariant
    c.args.list c.in_ok-first.first (sym c.in_ok-first.ensures) in omega (arith, fits)
