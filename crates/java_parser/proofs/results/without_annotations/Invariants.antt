use Rattle.std.proofs.Common.{◌≡◌, ◌++◌, length}
use Rattle.java_parser_grammar.specs.Heads.{without_annotations}
use Rattle.java_parser.proofs.results.without_annotations.Given as goal

abbrev pub invariant-loop-piece : goal.invariant-loop-piece
invariant-loop-piece l = l.bare.items ++ without_annotations l.rest ≡ without_annotations l.tokens

abbrev pub decreases-loop-piece : goal.decreases-loop-piece
decreases-loop-piece l = length l.rest
