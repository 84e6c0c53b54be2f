use Rattle.std.proofs.Common.{◌≡◌, length}
use Rattle.java_parser_grammar.specs.Pieces.{items_of}
use Rattle.java_parser_grammar.specs.Units.{body_among}
use Rattle.java_parser.specs.Members.{last_inside}
use Rattle.java_parser.proofs.bodies.body.Given as goal

abbrev pub invariant-loop-item : goal.invariant-loop-item
invariant-loop-item l = last_inside l.last (items_of l.rest) ≡ body_among (items_of l.tokens)

abbrev pub decreases-loop-item : goal.decreases-loop-item
decreases-loop-item l = length l.rest
