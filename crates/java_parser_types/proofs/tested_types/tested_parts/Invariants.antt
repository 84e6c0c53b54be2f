use Rattle.std.proofs.Common.{◌≡◌, ◌++◌, ◌-◌, ◌≤◌, [], ◌∷◌, length, map}
use Rattle.java_tree.specs.KeptPlaces.{kept, all_places, part_places}
use Rattle.java_tree.specs.Nesting.{parts_nesting}
use Rattle.java_tree.specs.Trees.{pack_parts}
use Rattle.java_tree.specs.View.{part_of}
use Rattle.java_parser_grammar.specs.TypeReading.{points, tested_part_with, ty_at}
use Rattle.java_parser_types.specs.Tokens.{spelled}
use Rattle.java_parser_types.specs.Finishing.{finished}
use Rattle.java_parser_types.specs.Endings.{named_end}
use Rattle.java_parser_types.proofs.tested_types.tested_parts.Given as goal

abbrev pub invariant-loop : goal.invariant-loop
invariant-loop l = record {
  gives : finished named_end (map part_of l.parts.items) (points (tested_part_with l.limit (ty_at l.limit))
      (length (map spelled l.tokens) - l.counter) (map spelled l.rest)) ≡ finished named_end
      (part_of l.fn.first.tree ∷ []) (points (tested_part_with l.limit (ty_at l.limit)) (length (map spelled l.tokens))
      (map spelled l.tokens));
  places : all_places (map part_places l.parts.items) ++ kept l.rest ≡ part_places l.fn.first.tree ++ kept l.tokens;
  small : l.nesting ≤ l.limit;
  measured : l.nesting ≡ parts_nesting (pack_parts (map part_of l.parts.items));
  shorter : length l.rest ≤ length l.tokens;
}
