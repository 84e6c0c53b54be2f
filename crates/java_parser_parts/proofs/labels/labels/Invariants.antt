use Rattle.std.proofs.Common.{◌≡◌, ◌-◌, ◌≤◌, length, map}
use Rattle.java_tree.specs.KeptPlaces.{kept, each_puts, label_places}
use Rattle.java_tree.specs.View.{label_of}
use Rattle.java_parser_grammar.specs.StatementReading.{labels_at}
use Rattle.java_parser_grammar.specs.JavaReaders.{method_readers}
use Rattle.java_parser_types.specs.LedPlaces.{Leads}
use Rattle.java_parser_types.specs.Tokens.{spelled}
use Rattle.java_parser_types.specs.Finishing.{finished}
use Rattle.java_parser_types.specs.Endings.{as_they_are}
use Rattle.java_parser_parts.proofs.labels.labels.Given as goal

abbrev pub invariant-loop : goal.invariant-loop
invariant-loop l = record {
  gives : finished as_they_are (map label_of l.items.items) (labels_at method_readers l.limit
      (length (map spelled l.tokens) - l.counter) (map spelled l.rest)) ≡ labels_at method_readers l.limit
      (length (map spelled l.tokens)) (map spelled l.tokens);
  places : Leads (each_puts (map label_places l.items.items)) (kept l.tokens) (kept l.rest);
  shorter : length l.rest ≤ length l.tokens;
}
