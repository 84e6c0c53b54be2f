use Rattle.std.proofs.Common.{◌≡◌, ◌+◌, ◌≤◌, length, map}
use Rattle.java_parser_grammar.specs.Leads.{behind}
use Rattle.java_parser_types.specs.Tokens.{spelled}
use Rattle.java_parser_lookahead.proofs.leads.behind.Given as goal

abbrev pub invariant-loop-rest : goal.invariant-loop-rest
invariant-loop-rest l = record {
  gives : behind l.depth (map spelled l.rest) ≡ behind 0 (map spelled l.tokens);
  within : l.depth + length l.rest ≤ length l.tokens;
}

abbrev pub decreases-loop-rest : goal.decreases-loop-rest
decreases-loop-rest l = length l.rest
