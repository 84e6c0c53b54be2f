use Rattle.std.proofs.Common.{◌≤◌, length, arith}
use Rattle.java_parser.proofs.FirstItem.{first_of, some_of}
use Rattle.java_parser.proofs.items.next_item.Goals as goal

pub returns-in-len1-up-clause-first : goal.returns-in-len1-up-clause-first
returns-in-len1-up-clause-first c =
    let some : 1 ≤ length c.args.tokens.now = omega (arith, c.in-len1-up.len_at_least) in
    rw (c.split_at.ensures.front, c.split_at.ensures.back) (first_of c.args.tokens.now c.item_size.result some
    c.item_size.ensures.size)

pub returns-in-len1-up-clause-shorter : goal.returns-in-len1-up-clause-shorter
returns-in-len1-up-clause-shorter c =
    let some : 1 ≤ length c.args.tokens.now = omega (arith, c.in-len1-up.len_at_least) in
    omega (arith, some_of c.args.tokens.now some, c.item_size.ensures.size, c.split_at.ensures.back_len)
