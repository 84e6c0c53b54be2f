use Rattle.std.proofs.Common.{◌≡◌, ◌+◌, false, length, drop}
use Rattle.java_parser_grammar.specs.Pieces.{items_of}
use Rattle.java_parser.specs.Members.{behind_member}
use Rattle.java_parser.proofs.bodies.member_size.Given as goal

abbrev pub invariant-loop-item : goal.invariant-loop-item
invariant-loop-item l = record {
  behind : behind_member l.equals (items_of l.rest) ≡ behind_member false (items_of l.tokens);
  at : drop l.size l.tokens ≡ l.rest;
  within : l.size + length l.rest ≡ length l.tokens;
}

abbrev pub decreases-loop-item : goal.decreases-loop-item
decreases-loop-item l = length l.rest
