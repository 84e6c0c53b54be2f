use Rattle.std.proofs.Common.{List, Bor, map, sym, subst}
use Rattle.java_lexer.specs.declared.token.Token.{Token}
use Rattle.java_parser_grammar.specs.Units.{AreTypes, IsUnit}
use Rattle.java_parser.specs.ReadTypes.{HaveTokens}
use Rattle.java_parser.proofs.SomeTokens.{types_have_tokens}
use Rattle.java_parser.proofs.UnitSteps.{is_unit}
use Rattle.java_parser.proofs.units.parse_unit.Goals as goal

pub unit-requires : goal.unit-requires
unit-requires c =
    subst (λ (ts : List (Bor (List Token))). HaveTokens (map (λ t. t.now) ts)) (sym c.as_slice.ensures.value)
    (types_have_tokens c.as_slice-tokens.result.now (map (λ t. t.now) c.in_ok-types.types.items)
    c.in_ok-types.ensures.ok)

pub returns-clause-unit : goal.returns-clause-unit
returns-clause-unit c =
    let tokens = c.as_slice-tokens.result.now in
    let u = c.in_ok-unit.field-0 in
    subst (λ (ts : List Token). IsUnit ts u) c.as_slice-tokens.ensures
    (is_unit tokens (map (λ t. t.now) c.in_ok-types.types.items) u c.in_ok-check_brackets.ensures.fine
    c.in_ok-types.ensures.ok
    (subst (λ ts. AreTypes (map (λ t. t.now) ts) u.classes u.skipped) c.as_slice.ensures.value c.in_ok-unit.ensures))
