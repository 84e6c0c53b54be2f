use Rattle.std.proofs.Common.{◌≡◌, ◌++◌, ◌+◌, ◌*◌, ◌-◌, ◌≤◌, [], ◌∷◌, length, map}
use Rattle.java_tree.specs.KeptPlaces.{kept, all_places, part_places, argument_places}
use Rattle.java_tree.specs.Nesting.{parts_nesting, arguments_nesting}
use Rattle.java_tree.specs.Trees.{pack_parts, pack_arguments}
use Rattle.java_tree.specs.View.{part_of, argument_of}
use Rattle.java_parser_grammar.specs.Taking.{commas}
use Rattle.java_parser_grammar.specs.TypeReading.{points, part_with, argument_with, ty_at}
use Rattle.java_parser_types.specs.Tokens.{spelled}
use Rattle.java_parser_types.specs.Finishing.{finished}
use Rattle.java_parser_types.specs.Endings.{named_end, angled_end}
use Rattle.java_parser_types.proofs.types.+types.Given as goal

abbrev pub invariant-parts-loop : goal.invariant-parts-loop
invariant-parts-loop l = record {
  gives : finished named_end (map part_of l.parts.items) (points (part_with (ty_at l.limit))
      (length (map spelled l.tokens) - l.counter) (map spelled l.rest)) ≡ finished named_end (part_of l.fn.first.tree
      ∷ []) (points (part_with (ty_at l.limit)) (length (map spelled l.tokens)) (map spelled l.tokens));
  places : all_places (map part_places l.parts.items) ++ kept l.rest ≡ part_places l.fn.first.tree ++ kept l.tokens;
  small : l.nesting ≤ l.limit;
  measured : l.nesting ≡ parts_nesting (pack_parts (map part_of l.parts.items));
  shorter : length l.rest ≤ length l.tokens;
}

abbrev pub invariant-arguments-loop : goal.invariant-arguments-loop
invariant-arguments-loop l = record {
  gives : finished angled_end (map argument_of l.items.items) (commas (argument_with (ty_at l.limit))
      (length (map spelled l.tokens) - l.counter) (map spelled l.rest)) ≡ finished angled_end
      (argument_of l.fn.first.tree ∷ []) (commas (argument_with (ty_at l.limit)) (length (map spelled l.tokens))
      (map spelled l.tokens));
  places : all_places (map argument_places l.items.items) ++ kept l.rest ≡ argument_places l.fn.first.tree
      ++ kept l.tokens;
  small : l.nesting ≤ l.limit;
  measured : l.nesting ≡ arguments_nesting (pack_arguments (map argument_of l.items.items));
  shorter : length l.rest ≤ length l.tokens;
}

abbrev pub decreases-read_type : goal.decreases-read_type
decreases-read_type l = 8 * l.limit

abbrev pub decreases-base : goal.decreases-base
decreases-base l = 8 * l.limit + 7

abbrev pub decreases-parts : goal.decreases-parts
decreases-parts l = 8 * l.limit + 6

abbrev pub decreases-part : goal.decreases-part
decreases-part l = 8 * l.limit + 5

abbrev pub decreases-angled : goal.decreases-angled
decreases-angled l = 8 * l.limit + 4

abbrev pub decreases-arguments : goal.decreases-arguments
decreases-arguments l = 8 * l.limit + 3

abbrev pub decreases-argument : goal.decreases-argument
decreases-argument l = 8 * l.limit + 2

abbrev pub decreases-wildcard : goal.decreases-wildcard
decreases-wildcard l = 8 * l.limit + 1
