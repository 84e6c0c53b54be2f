use Rattle.std.proofs.Common.{◌≡◌, true, map, length}
use Rattle.java_parser_grammar.specs.Pieces.{items_of}
use Rattle.java_parser_grammar.specs.DeclarationWalk.{Whole, is_whole}
use Rattle.java_parser.specs.FirstDeclaration.{seen_of}
use Rattle.java_parser.specs.WalkedTypes.{types_from, with_types}
use Rattle.java_parser.proofs.types.types.Given as goal

abbrev pub invariant-loop-rest : goal.invariant-loop-rest
invariant-loop-rest l = record {
  gives : with_types (map (λ t. t.now) l.types.items) (types_from (seen_of l.seen) (items_of l.rest))
      ≡ types_from (Whole true true) (items_of l.tokens);
  whole : is_whole (seen_of l.seen) ≡ true;
}

abbrev pub decreases-loop-rest : goal.decreases-loop-rest
decreases-loop-rest l = length l.rest
