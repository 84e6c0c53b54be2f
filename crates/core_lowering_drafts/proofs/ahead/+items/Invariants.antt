use Rattle.std.proofs.Common.{◌≡◌, ◌+◌, ◌*◌, ◌++◌, map, drop}
use Rattle.core_lowering_drafts.specs.Ahead.{item_of}
use Rattle.core_lowering_drafts.specs.Lists.{size_of}
use Rattle.core_lowering_drafts.specs.Pieces.{all_parts, parts_of}
use Rattle.core_lowering_drafts.proofs.ahead.+items.Given as goal

abbrev pub decreases-push_piece : goal.decreases-push_piece
decreases-push_piece l = 2 * size_of (parts_of l.piece.now)

abbrev pub decreases-push_pieces : goal.decreases-push_pieces
decreases-push_pieces l = 2 * size_of (all_parts l.pieces.now) + 1

abbrev pub invariant-push_pieces-loop-piece : goal.invariant-push_pieces-loop-piece
invariant-push_pieces-loop-piece l =
    map item_of l.items.items ++ all_parts (drop l.piece-index l.pieces)
    ≡ map item_of l.initial.items.items ++ all_parts l.pieces
