use Rattle.std.proofs.Common.{◌≤◌, length, take, drop, arith, refl}
use Rattle.java_parser_grammar.specs.Pieces.{items_of}
use Rattle.java_parser.specs.Sizes.{item_size}
use Rattle.java_parser.proofs.FirstItem.{first_of}
use Rattle.java_parser.proofs.FirstMember.{first_member, some_member}
use Rattle.java_parser.proofs.bodies.next_member.Goals as goal

pub returns-in-len1-up-clause-first : goal.returns-in-len1-up-clause-first
returns-in-len1-up-clause-first c =
    let tokens = c.args.tokens.now in
    let some : 1 ≤ length tokens = omega (arith, c.in-len1-up.len_at_least) in
    let first = item_size 0 tokens in
    rw (c.split_at.ensures.front, c.split_at.ensures.back)
    (first_member tokens (take first tokens) (items_of (drop first tokens)) c.member_size.result
    (first_of tokens first some refl) c.member_size.ensures.behind)

pub returns-in-len1-up-clause-shorter : goal.returns-in-len1-up-clause-shorter
returns-in-len1-up-clause-shorter c =
    let tokens = c.args.tokens.now in
    let some : 1 ≤ length tokens = omega (arith, c.in-len1-up.len_at_least) in
    let first = item_size 0 tokens in
    let size : 1 ≤ c.member_size.result = some_member tokens (take first tokens) (items_of (drop first tokens))
    c.member_size.result (first_of tokens first some refl) c.member_size.ensures.behind in
    omega (arith, size, c.split_at.ensures.back_len)
