use Rattle.std.proofs.Common.{◌≡◌, ◌++◌, drop, map}
use Rattle.std.specs.Arc.{arc_value}
use Rattle.demand_pool.specs.RowPieces.{shared_in}
use Rattle.demand_pool.proofs.row_pieces.copies_of.Given as goal

abbrev pub invariant-loop-one : goal.invariant-loop-one
invariant-loop-one l =
    map arc_value l.copies.items ++ map arc_value (map shared_in (drop l.one-index l.found)) ≡
    map arc_value (map shared_in l.found)
