use Rattle.std.proofs.Common.{◌≡◌, ◌+◌, ◌≤◌, length}
use Rattle.java_parser.specs.PieceSizes.{annotation_size}
use Rattle.java_parser.proofs.pieces.annotation_size.Given as goal

abbrev pub invariant-loop-after : goal.invariant-loop-after
invariant-loop-after l = record {
  size : l.size + annotation_size l.rest ≡ annotation_size l.tokens;
  within : l.size + length l.rest ≤ length l.tokens;
}

abbrev pub decreases-loop-after : goal.decreases-loop-after
decreases-loop-after l = length l.rest
