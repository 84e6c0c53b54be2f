use Rattle.std.proofs.Common.{◌≡◌, length, map}
use Rattle.java_parser_grammar.specs.Lookahead.{begins_class}
use Rattle.java_parser_types.specs.Tokens.{spelled}
use Rattle.java_parser_lookahead.proofs.lookahead.begins_class.Given as goal

abbrev pub invariant-loop-rest : goal.invariant-loop-rest
invariant-loop-rest l = record {
  gives : begins_class (map spelled l.rest) ≡ begins_class (map spelled l.tokens);
}

abbrev pub decreases-loop-rest : goal.decreases-loop-rest
decreases-loop-rest l = length l.rest
