use Rattle.std.proofs.Common.{◌≡◌, [], map, drop}
use Rattle.java_parser_grammar.specs.Brackets.{unbalanced}
use Rattle.java_parser.specs.OpenBrackets.{open_onto}
use Rattle.java_parser.proofs.balance.unbalanced.Given as goal

abbrev pub invariant-loop-token : goal.invariant-loop-token
invariant-loop-token l = unbalanced (open_onto (map (λ t. t.now) l.open.items) []) (drop l.token-index l.tokens)
    ≡ unbalanced [] l.tokens
