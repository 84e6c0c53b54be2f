use Rattle.std.proofs.Common.{◌≡◌, ◌+◌, length, drop}
use Rattle.java_parser_grammar.specs.Pieces.{items_of}
use Rattle.java_parser.specs.FirstDeclaration.{seen_of, first_declared}
use Rattle.java_parser.proofs.declarations.first_declaration.Given as goal

abbrev pub invariant-loop-item : goal.invariant-loop-item
invariant-loop-item l = record {
  first : first_declared (seen_of l.seen) (items_of l.rest) ≡ first_declared (seen_of l.fn.seen) (items_of l.tokens);
  at : drop l.size l.tokens ≡ l.rest;
  within : l.size + length l.rest ≡ length l.tokens;
}

abbrev pub decreases-loop-item : goal.decreases-loop-item
decreases-loop-item l = length l.rest
