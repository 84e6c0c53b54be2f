use Rattle.std.proofs.Common.{◌≡◌, length, map}
use Rattle.java_parser_lookahead.specs.FirstParenthesis.{behind_first}
use Rattle.java_parser_types.specs.Tokens.{spelled}
use Rattle.java_parser_lookahead.proofs.leads.behind_first.Given as goal

abbrev pub invariant-loop-rest : goal.invariant-loop-rest
invariant-loop-rest l = record {
  gives : behind_first (map spelled l.rest) ≡ behind_first (map spelled l.tokens);
}

abbrev pub decreases-loop-rest : goal.decreases-loop-rest
decreases-loop-rest l = length l.rest
