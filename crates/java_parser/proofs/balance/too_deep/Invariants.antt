use Rattle.std.proofs.Common.{◌≡◌, ◌≤◌, drop}
use Rattle.java_parser_grammar.specs.Brackets.{too_deep}
use Rattle.java_parser.proofs.balance.too_deep.Given as goal

abbrev pub invariant-loop-token : goal.invariant-loop-token
invariant-loop-token l = record {
  gives : too_deep l.depth (drop l.token-index l.tokens) ≡ too_deep 0 l.tokens;
  small : l.depth ≤ l.token-index;
}
