use Rattle.std.proofs.Common.{map, drop, ap, arith}
use Rattle.std.proofs.lemmas.List.{drop_all}
use Rattle.java_parser_grammar.specs.FieldDivisions.{IsVariable}
use Rattle.java_parser.proofs.Zips.{zips_done}
use Rattle.java_parser.proofs.variables.variables_of.Goals as goal

pub returns : goal.returns
returns c =
    let pieces = c.args.pieces.now in
    zips_done IsVariable (map (λ p. p.now) pieces) c.loop-piece.variables.items
    (map (λ p. p.now) (drop c.loop-piece.piece-index pieces))
    (ap (map (λ p. p.now)) (drop_all c.loop-piece.piece-index pieces (omega (arith, c.loop-piece-test.false))))
    c.loop-piece.invariant.zips
