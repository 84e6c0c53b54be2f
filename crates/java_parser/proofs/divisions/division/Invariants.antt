use Rattle.std.proofs.Common.{◌≤◌, suc, map, length}
use Rattle.std.specs.Prelude.{option_map}
use Rattle.java_tree.specs.FormedModifiers.{Each}
use Rattle.java_parser.specs.Divisions.{HasTree, Passes, Divides, left_size}
use Rattle.java_parser.proofs.divisions.division.Given as goal

abbrev pub invariant-loop-left : goal.invariant-loop-left
invariant-loop-left l = record {
  divides : Divides l.tokens (map (λ p. p.now) l.pieces.items) (option_map (λ r. r.now) l.left);
  trees : Each HasTree (map (λ p. p.now) l.pieces.items);
  passes : Passes l.tokens (option_map (λ r. r.now) l.left);
  small : left_size (option_map (λ r. r.now) l.left) ≤ suc (length l.tokens);
}

abbrev pub decreases-loop-left : goal.decreases-loop-left
decreases-loop-left l = left_size (option_map (λ r. r.now) l.left)
