use Rattle.std.proofs.Common.{◌≤◌, length, arith}
use Rattle.java_parser.proofs.FirstPiece.{first_piece, some_piece}
use Rattle.java_parser.proofs.pieces.next_piece.Goals as goal

pub returns-in-len1-up-clause-first : goal.returns-in-len1-up-clause-first
returns-in-len1-up-clause-first c =
    let some : 1 ≤ length c.args.tokens.now = omega (arith, c.in-len1-up.len_at_least) in
    rw (c.split_at.ensures.front, c.split_at.ensures.back, c.piece_size.ensures.size) (first_piece c.args.tokens.now
    some)

pub returns-in-len1-up-clause-shorter : goal.returns-in-len1-up-clause-shorter
returns-in-len1-up-clause-shorter c =
    let some : 1 ≤ length c.args.tokens.now = omega (arith, c.in-len1-up.len_at_least) in
    omega (arith, some_piece c.args.tokens.now some, c.piece_size.ensures.size, c.split_at.ensures.back_len)
