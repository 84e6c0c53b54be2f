use Rattle.std.proofs.Common.{◌≡◌, ◌+◌, ◌≤◌, drop}
use Rattle.java_parser.specs.Sizes.{item_size}
use Rattle.java_parser.proofs.items.item_size.Given as goal

abbrev pub invariant-loop-index : goal.invariant-loop-index
invariant-loop-index l = record {
  size : item_size 0 l.tokens ≡ l.index + item_size l.depth (drop l.index l.tokens);
  small : l.depth ≤ l.index;
}
