use Rattle.std.proofs.Common.{◌≡◌, ◌+◌, ◌≤◌, true, [], ◌∷◌, length, map}
use Rattle.java_tree.specs.KeptPlaces.{kept, each_puts, name_places}
use Rattle.java_tree.specs.View.{name_of}
use Rattle.java_parser_grammar.specs.ExpressionReading.{class_at}
use Rattle.java_parser_expressions.specs.ClassFollows.{class_behind}
use Rattle.java_parser_types.specs.LedPlaces.{LeadsOn}
use Rattle.java_parser_types.specs.Tokens.{spelled}
use Rattle.java_parser_expressions.proofs.class_names.names.Given as goal

abbrev pub invariant-loop : goal.invariant-loop
invariant-loop l = record {
  gives : class_behind (map name_of l.names.items) (class_at true (map spelled l.rest)) ≡ class_behind
      (l.fn.first.text ∷ []) (class_at true (map spelled l.tokens));
  places : LeadsOn (name_places l.fn.first) (each_puts (map name_places l.names.items)) (kept l.tokens) (kept l.rest);
  within : l.counter + length l.rest ≤ length l.tokens;
}
