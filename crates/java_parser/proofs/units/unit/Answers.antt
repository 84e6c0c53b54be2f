use Rattle.std.proofs.Common.{List, Bor, map, drop, ap, arith}
use Rattle.std.proofs.lemmas.List.{drop_all}
use Rattle.java_lexer.specs.declared.token.Token.{Token}
use Rattle.java_parser.proofs.SomeTokens.{one_has_tokens}
use Rattle.java_parser.proofs.UnitSteps.{read_next, read_done}
use Rattle.java_parser.proofs.units.unit.Goals as goal

pub add_type-requires : goal.add_type-requires
add_type-requires c =
    one_has_tokens {X = Bor (List Token)} (λ t. t.now) c.args.types.now c.loop-tokens.tokens-index _
    c.tokens-item.result c.loop-tokens-test.true c.tokens-item.is c.requires

pub returns : goal.returns
returns c =
    let types = c.args.types.now in
    let index = c.loop-tokens.tokens-index in
    read_done (map (λ t. t.now) types) c.loop-tokens.unit (map (λ t. t.now) (drop index types))
    (ap (map (λ t. t.now)) (drop_all index types (omega (arith, c.loop-tokens-test.false)))) c.loop-tokens.invariant

pub loop-tokens-preserved : goal.loop-tokens-preserved
loop-tokens-preserved c =
    read_next {X = Bor (List Token)} (λ t. t.now) c.args.types.now c.loop-tokens.tokens-index _ c.tokens-item.result
    c.loop-tokens.unit c.add_type.new.unit c.loop-tokens-test.true c.tokens-item.is c.loop-tokens.invariant
    c.in_default.ensures
