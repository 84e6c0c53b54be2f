use Rattle.std.proofs.Common.{◌≡◌, ◌++◌, ◌-◌, ◌≤◌, [], ◌∷◌, length, map}
use Rattle.java_tree.specs.KeptPlaces.{kept, all_places, ty_places}
use Rattle.java_tree.specs.Nesting.{most_over, ty_nesting}
use Rattle.java_tree.specs.View.{ty_of}
use Rattle.java_parser_grammar.specs.TypeReading.{behind_each, ty_at}
use Rattle.java_parser_types.specs.Tokens.{spelled}
use Rattle.java_parser_types.specs.Finishing.{finished}
use Rattle.java_parser_types.specs.Endings.{as_they_are}
use Rattle.java_parser_types.proofs.type_lists.types_behind.Given as goal

abbrev pub invariant-loop : goal.invariant-loop
invariant-loop l = record {
  gives : finished as_they_are (map ty_of l.trees.items) (behind_each l.sign (ty_at l.limit)
      (length (map spelled l.tokens) - l.counter) (map spelled l.rest)) ≡ finished as_they_are
      (ty_of l.fn.first.tree ∷ []) (behind_each l.sign (ty_at l.limit) (length (map spelled l.tokens))
      (map spelled l.tokens));
  places : all_places (map ty_places l.trees.items) ++ kept l.rest ≡ ty_places l.fn.first.tree ++ kept l.tokens;
  small : l.nesting ≤ l.limit;
  measured : l.nesting ≡ most_over ty_nesting (map ty_of l.trees.items);
  shorter : length l.rest ≤ length l.tokens;
}
