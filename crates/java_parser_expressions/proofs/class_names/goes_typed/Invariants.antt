use Rattle.std.proofs.Common.{◌≡◌, length, map}
use Rattle.java_parser_grammar.specs.ExpressionReading.{goes_typed}
use Rattle.java_parser_types.specs.Tokens.{spelled}
use Rattle.java_parser_expressions.proofs.class_names.goes_typed.Given as goal

abbrev pub invariant-loop-rest : goal.invariant-loop-rest
invariant-loop-rest l = record {
  gives : goes_typed l.limit (map spelled l.rest) ≡ goes_typed l.limit (map spelled l.tokens);
}

abbrev pub decreases-loop-rest : goal.decreases-loop-rest
decreases-loop-rest l = length l.rest
