use Rattle.std.proofs.Common.{◌≡◌, ◌++◌, map}
use Rattle.std.specs.Prelude.{option_map}
use Rattle.java_parser_grammar.specs.Pieces.{items_of}
use Rattle.java_parser_grammar.specs.FieldDivisions.{between_commas}
use Rattle.java_parser.specs.Divisions.{left_pieces, left_size}
use Rattle.java_parser.proofs.divisions.between_commas.Given as goal

abbrev pub invariant-loop-left : goal.invariant-loop-left
invariant-loop-left l = map (λ p. p.now) l.pieces.items ++ left_pieces (option_map (λ r. r.now) l.left)
    ≡ between_commas (items_of l.tokens)

abbrev pub decreases-loop-left : goal.decreases-loop-left
decreases-loop-left l = left_size (option_map (λ r. r.now) l.left)
