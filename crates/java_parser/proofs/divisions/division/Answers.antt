use Rattle.std.proofs.Common.{◌≡◌, [], ◌∷◌, ◌++◌, map, arith}
use Rattle.std.specs.Prelude.{option_map}
use Rattle.std.proofs.lemmas.List.{map_push}
use Rattle.java_parser.proofs.DivisionSteps.{goes_on}
use Rattle.java_parser.proofs.divisions.division.Goals as goal

pub loop-left-preserved : goal.loop-left-preserved
loop-left-preserved c =
    let piece = c.in-Ok.first.0 in
    let e : map (λ p. p.now) c.push.new.self.items ≡ map (λ p. p.now) c.loop-left.pieces.items ++ piece.now ∷ [] =
    rw c.in_ok-push.ensures.items (map_push _ c.loop-left.pieces.items piece) in
    let g = goes_on c.args.tokens.now c.in-Some.rest.now piece.now (map (λ p. p.now) c.loop-left.pieces.items)
    (option_map (λ r. r.now) c.in-Ok.first.1) (rw c.in-Some.is at c.loop-left.invariant.divides)
    c.loop-left.invariant.trees (rw c.in-Some.is at c.loop-left.invariant.passes) c.in-Ok.ensures.first in
    record {
      divides = rw e g.divides;
      trees = rw e g.trees;
      passes = g.passes;
      small = omega (arith, c.in-Ok.ensures.shorter, rw c.in-Some.is at c.loop-left.invariant.small);
    }
