use Rattle.std.proofs.Common.{◌≡◌, false, length}
use Rattle.java_parser_grammar.specs.Pieces.{items_of}
use Rattle.java_parser_grammar.specs.Members.{is_endless}
use Rattle.java_parser.proofs.bodies.is_endless.Given as goal

abbrev pub invariant-loop-item : goal.invariant-loop-item
invariant-loop-item l = is_endless l.equals (items_of l.rest) ≡ is_endless false (items_of l.tokens)

abbrev pub decreases-loop-item : goal.decreases-loop-item
decreases-loop-item l = length l.rest
