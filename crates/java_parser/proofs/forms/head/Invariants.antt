use Rattle.std.proofs.Common.{◌≡◌, ◌+◌, length, take, drop}
use Rattle.java_parser_grammar.specs.Pieces.{pieces_of}
use Rattle.java_parser_grammar.specs.Members.{before_parentheses}
use Rattle.java_parser.specs.FormView.{behind_front}
use Rattle.java_parser.proofs.forms.head.Given as goal

abbrev pub invariant-loop-piece : goal.invariant-loop-piece
invariant-loop-piece l = record {
  gives : behind_front (take l.size l.member) (before_parentheses (pieces_of l.rest)) ≡ before_parentheses
      (pieces_of l.member);
  at : drop l.size l.member ≡ l.rest;
  within : l.size + length l.rest ≡ length l.member;
}

abbrev pub decreases-loop-piece : goal.decreases-loop-piece
decreases-loop-piece l = length l.rest
