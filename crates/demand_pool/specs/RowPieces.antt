-- No public contract rests on this: the pieces that a worker finds of a row.
use Rattle.std.specs.Prelude.{◌≡◌}
use Rattle.std.specs.Arc.{arc_value}
use Rattle.racer_base.specs.declared.ids.MethodId.{MethodId}
use Rattle.core_code.specs.declared.program.Program.{Program}
use Rattle.transfer.specs.declared.finished.Finished.{Finished}
use Rattle.transfer.specs.Callees.{SharedFinished}
use Rattle.demand_pool.specs.declared.row_pieces.FoundPiece.{FoundPiece}
use Rattle.demand_pool.specs.declared.row_pieces.FoundPiece.TheVariants.{InCell, Copied}

-- the pointer to the piece that was found
abbrev pub shared_in : FoundPiece → SharedFinished
shared_in (InCell piece) = piece.now
shared_in (Copied piece) = piece

-- the piece is made of this method, for this program
abbrev pub IsPieceFor : Program → MethodId → Finished → Type 0
IsPieceFor program m piece = (piece.method.0 ≡ m.0) × (arc_value piece.program ≡ program)
