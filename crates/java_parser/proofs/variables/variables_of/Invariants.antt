use Rattle.std.proofs.Common.{◌≡◌, true, map, drop}
use Rattle.java_parser_grammar.specs.FieldDivisions.{IsVariable}
use Rattle.java_parser.specs.Divisions.{are_declarators}
use Rattle.java_parser.proofs.Zips.{Zips}
use Rattle.java_parser.proofs.variables.variables_of.Given as goal

abbrev pub invariant-loop-piece : goal.invariant-loop-piece
invariant-loop-piece l = record {
  zips : Zips IsVariable (map (λ p. p.now) l.pieces) l.variables.items (map (λ p. p.now) (drop l.piece-index l.pieces));
  declare : are_declarators (map (λ p. p.now) (drop l.piece-index l.pieces)) ≡ true;
}
