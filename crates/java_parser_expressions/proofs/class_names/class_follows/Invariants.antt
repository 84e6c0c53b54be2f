use Rattle.std.proofs.Common.{◌≡◌, ◌+◌, ◌≤◌, length, map}
use Rattle.java_parser_expressions.specs.ClassFollows.{class_follows}
use Rattle.java_parser_types.specs.Tokens.{spelled}
use Rattle.java_parser_expressions.proofs.class_names.class_follows.Given as goal

abbrev pub invariant-loop : goal.invariant-loop
invariant-loop l = record {
  gives : class_follows (map spelled l.rest) ≡ class_follows (map spelled l.tokens);
  within : l.counter + length l.rest ≤ length l.tokens;
}
