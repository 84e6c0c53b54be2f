use Rattle.std.proofs.Common.{◌≡◌, ◌+◌, ◌*◌, length, drop}
use Rattle.core_lowering_drafts.specs.Lists.{size_of}
use Rattle.core_lowering_drafts.specs.Pieces.{all_parts, parts_of}
use Rattle.core_lowering_drafts.proofs.counted.+count.Given as goal

abbrev pub decreases-count_piece : goal.decreases-count_piece
decreases-count_piece l = 2 * size_of (parts_of l.piece.now)

abbrev pub decreases-count_pieces : goal.decreases-count_pieces
decreases-count_pieces l = 2 * size_of (all_parts l.pieces.now) + 1

abbrev pub invariant-count_pieces-loop-piece : goal.invariant-count_pieces-loop-piece
invariant-count_pieces-loop-piece l =
    l.count + length (all_parts (drop l.piece-index l.pieces)) ≡ length (all_parts l.pieces)
