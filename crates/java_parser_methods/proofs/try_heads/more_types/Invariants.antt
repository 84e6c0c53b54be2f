use Rattle.std.proofs.Common.{◌++◌, ◌≡◌, ◌-◌, ◌≤◌, [], ◌∷◌, codes, length, map}
use Rattle.java_tree.specs.KeptPlaces.{kept, all_places, ty_places}
use Rattle.java_tree.specs.View.{ty_of}
use Rattle.java_parser_grammar.specs.StatementReading.{named_at}
use Rattle.java_parser_grammar.specs.TypeReading.{behind_each}
use Rattle.java_parser_grammar.specs.JavaReaders.{method_readers}
use Rattle.java_parser_types.specs.Tokens.{spelled}
use Rattle.java_parser_types.specs.Finishing.{finished}
use Rattle.java_parser_types.specs.Endings.{as_they_are}
use Rattle.java_parser_methods.proofs.try_heads.more_types.Given as goal

abbrev pub invariant-loop : goal.invariant-loop
invariant-loop l = record {
  gives : finished as_they_are (map ty_of l.items.items) (behind_each (codes "|") (named_at method_readers l.limit)
      (length (map spelled l.tokens) - l.counter) (map spelled l.rest)) ≡ finished as_they_are (ty_of l.fn.first ∷ [])
      (behind_each (codes "|") (named_at method_readers l.limit) (length (map spelled l.tokens))
      (map spelled l.tokens));
  places : all_places (map ty_places l.items.items) ++ kept l.rest ≡ ty_places l.fn.first ++ kept l.tokens;
  shorter : length l.rest ≤ length l.tokens;
}
