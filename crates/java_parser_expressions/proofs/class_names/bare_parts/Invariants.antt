use Rattle.std.proofs.Common.{◌≡◌, ◌++◌, map}
use Rattle.java_tree.specs.KeptPlaces.{all_places, part_places}
use Rattle.java_tree.specs.View.{part_of}
use Rattle.java_parser_expressions.proofs.BareParts.{bare_of, place_of}
use Rattle.java_parser_expressions.proofs.class_names.bare_parts.Given as goal

abbrev pub invariant-loop-name : goal.invariant-loop-name
invariant-loop-name l = record {
  gives : map part_of l.parts.items ++ map bare_of l.name-iterator.rest.items ≡ map bare_of l.fn.names.items;
  places : all_places (map part_places l.parts.items) ++ map place_of l.name-iterator.rest.items
      ≡ map place_of l.fn.names.items;
}
