use Rattle.std.proofs.Common.{◌≡◌, ◌-◌, ◌≤◌, [], ◌∷◌, length, map}
use Rattle.java_tree.specs.KeptPlaces.{kept, each_puts, variable_places}
use Rattle.java_tree.specs.View.{variable_of}
use Rattle.java_parser_grammar.specs.Taking.{commas}
use Rattle.java_parser_grammar.specs.StatementReading.{variable_at}
use Rattle.java_parser_grammar.specs.JavaReaders.{method_readers}
use Rattle.java_parser_types.specs.LedPlaces.{LeadsOn}
use Rattle.java_parser_types.specs.Tokens.{spelled}
use Rattle.java_parser_types.specs.Finishing.{finished}
use Rattle.java_parser_types.specs.Endings.{as_they_are}
use Rattle.java_parser_methods.proofs.locals.more_variables.Given as goal

abbrev pub invariant-loop : goal.invariant-loop
invariant-loop l = record {
  gives : finished as_they_are (map variable_of l.items.items) (commas (variable_at method_readers l.limit)
      (length (map spelled l.tokens) - l.counter) (map spelled l.rest)) ≡ finished as_they_are
      (variable_of l.fn.first.value
      ∷ []) (commas (variable_at method_readers l.limit) (length (map spelled l.tokens)) (map spelled l.tokens));
  places : LeadsOn (variable_places l.fn.first.value) (each_puts (map variable_places l.items.items)) (kept l.tokens)
      (kept l.rest);
  shorter : length l.rest ≤ length l.tokens;
}
