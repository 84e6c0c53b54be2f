use Rattle.std.proofs.Common.{◌≤◌, map, length}
use Rattle.java_tree.specs.View.{modifier_of}
use Rattle.java_parser_types.specs.Tokens.{spelled}
use Rattle.java_parser.specs.FieldModifiers.{Spells, SkipsModifiers}
use Rattle.java_parser.proofs.fields.read_modifiers.Given as goal

abbrev pub invariant-loop-items : goal.invariant-loop-items
invariant-loop-items l = record {
  spells : Spells (map spelled l.tokens) (map modifier_of l.items.items) (map spelled l.rest);
  skips : SkipsModifiers (map spelled l.tokens) (map spelled l.rest);
  shorter : length l.rest ≤ length l.tokens;
}

abbrev pub decreases-loop-items : goal.decreases-loop-items
decreases-loop-items l = length l.rest
