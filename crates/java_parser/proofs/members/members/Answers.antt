use Rattle.std.proofs.Common.{List, Bor, map, drop, ap, sym, subst, arith}
use Rattle.std.proofs.lemmas.List.{drop_all}
use Rattle.java_lexer.specs.declared.token.Token.{Token}
use Rattle.java_parser_grammar.specs.Members.{members_of}
use Rattle.java_parser_grammar.specs.Units.{IsMember}
use Rattle.java_parser.specs.ReadTypes.{HaveTokens}
use Rattle.java_parser.proofs.SomeTokens.{members_have_tokens, one_has_tokens}
use Rattle.java_parser.proofs.Zips.{zips_done}
use Rattle.java_parser.proofs.members.members.Goals as goal

pub first_place-requires : goal.first_place-requires
first_place-requires c =
    one_has_tokens {X = Bor (List Token)} (λ m. m.now) c.as_slice-tokens-items.result.now c.loop-tokens.tokens-index _
    c.tokens-item.result c.loop-tokens-test.true c.tokens-item.is
    (subst (λ (ms : List (Bor (List Token))). HaveTokens (map (λ m. m.now) ms))
    (sym c.as_slice-tokens-items.ensures.value)
    (subst HaveTokens (sym c.in_ok-parts.ensures) (members_have_tokens c.args.body.now)))

pub returns : goal.returns
returns c =
    let parts = c.as_slice-tokens-items.result.now in
    zips_done (IsMember c.args.class.now) (members_of c.args.body.now) c.loop-tokens.members
    (map (λ m. m.now) (drop c.loop-tokens.tokens-index parts))
    (ap (map (λ m. m.now)) (drop_all c.loop-tokens.tokens-index parts (omega (arith, c.loop-tokens-test.false))))
    c.loop-tokens.invariant
