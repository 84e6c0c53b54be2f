use Rattle.std.proofs.Common.{◌≤◌, ◌<◌, ◌*◌, ◌+◌, ap, ◌∙◌, arith}
use Rattle.core_lowering_drafts.specs.Lists.{size_of}
use Rattle.core_lowering_drafts.specs.Pieces.{all_parts, parts_of}
use Rattle.core_lowering_drafts.proofs.PieceSizes.{again-falls, piece-within}
use Rattle.core_lowering_drafts.proofs.counted.+count.Goals as goal

pub count_piece-count_pieces-requires : goal.count_piece-count_pieces-requires
count_piece-count_pieces-requires t c =
    let falls : 2 * size_of (all_parts c.pieces.result.now) + 1 < 2 * size_of (parts_of c.args.piece.now) =
    again-falls c.args.piece.now (all_parts c.pieces.result.now) c.in-Again.body.value (ap parts_of c.in-Again.is)
    (c.pieces.ensures ∙ c.deref.ensures) in
    (omega (arith, falls, c.decreases), tt)

pub count_pieces-count_piece-requires : goal.count_pieces-count_piece-requires
count_pieces-count_piece-requires t c =
    let within : size_of (parts_of c.piece-item.result) ≤ size_of (all_parts c.args.pieces.now) =
    piece-within c.args.pieces.now c.loop-piece.piece-index c.piece-item.result c.loop-piece-test.true
    c.piece-item.is in
    (omega (arith, within, c.decreases), tt)
