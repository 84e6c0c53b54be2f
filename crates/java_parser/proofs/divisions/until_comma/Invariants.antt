use Rattle.std.proofs.Common.{◌≡◌, ◌+◌, length, take, drop}
use Rattle.java_parser_grammar.specs.Pieces.{items_of}
use Rattle.java_parser_grammar.specs.FieldDivisions.{before_first, between_commas}
use Rattle.java_parser.proofs.divisions.until_comma.Given as goal

abbrev pub invariant-loop-item : goal.invariant-loop-item
invariant-loop-item l = record {
  at : drop l.size l.tokens ≡ l.rest;
  within : l.size + length l.rest ≡ length l.tokens;
  gives : before_first (take l.size l.tokens) (between_commas (items_of l.rest)) ≡ between_commas (items_of l.tokens);
}

abbrev pub decreases-loop-item : goal.decreases-loop-item
decreases-loop-item l = length l.rest
