use Rattle.std.proofs.Common.{◌≡◌, map, drop}
use Rattle.java_parser.specs.Divisions.{are_declarators}
use Rattle.java_parser.proofs.variables.are_declarators.Given as goal

abbrev pub invariant-loop-piece : goal.invariant-loop-piece
invariant-loop-piece l = are_declarators (map (λ p. p.now) (drop l.piece-index l.pieces))
    ≡ are_declarators (map (λ p. p.now) l.pieces)
