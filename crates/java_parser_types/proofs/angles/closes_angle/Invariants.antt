use Rattle.std.proofs.Common.{◌≡◌, length, map}
use Rattle.java_parser_grammar.specs.TypeReading.{closes_angle}
use Rattle.java_parser_types.specs.Tokens.{spelled}
use Rattle.java_parser_types.proofs.angles.closes_angle.Given as goal

abbrev pub invariant-loop-rest : goal.invariant-loop-rest
invariant-loop-rest l = record {
  gives : closes_angle l.limit l.depth (map spelled l.rest) ≡ closes_angle l.limit 0 (map spelled l.tokens);
}

abbrev pub decreases-loop-rest : goal.decreases-loop-rest
decreases-loop-rest l = length l.rest
