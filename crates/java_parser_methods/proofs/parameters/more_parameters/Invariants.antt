use Rattle.std.proofs.Common.{◌≡◌, ◌-◌, ◌≤◌, [], ◌∷◌, length, map}
use Rattle.java_tree.specs.KeptPlaces.{Places, kept}
use Rattle.java_tree.specs.KeptPlaces.{each_marks}
use Rattle.java_tree.specs.MethodPlaces.{parameter_marks}
use Rattle.java_parser_types.specs.LedPlaces.{Leads}
use Rattle.java_tree.specs.View.{parameter_of}
use Rattle.java_parser_grammar.specs.Taking.{commas}
use Rattle.java_parser_grammar.specs.MethodReading.{parameter_at}
use Rattle.java_parser_grammar.specs.JavaReaders.{method_readers}
use Rattle.java_parser_types.specs.Tokens.{spelled}
use Rattle.java_parser_types.specs.Finishing.{finished}
use Rattle.java_parser_types.specs.Endings.{as_they_are}
use Rattle.java_parser_methods.proofs.parameters.more_parameters.Given as goal

abbrev pub invariant-loop : goal.invariant-loop
invariant-loop l = record {
  gives : finished as_they_are (map parameter_of l.items.items) (commas (parameter_at method_readers l.limit)
      (length (map spelled l.tokens) - l.counter) (map spelled l.rest)) ≡ finished as_they_are
      (parameter_of l.fn.first ∷ []) (commas (parameter_at method_readers l.limit) (length (map spelled l.tokens))
      (map spelled l.tokens));
  places : (start : Places) → Leads (parameter_marks l.fn.first) start (kept l.tokens)
      → Leads (each_marks parameter_marks l.items.items) start (kept l.rest);
  shorter : length l.rest ≤ length l.tokens;
}
