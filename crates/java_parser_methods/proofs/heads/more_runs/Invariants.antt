use Rattle.std.proofs.Common.{◌≡◌, ◌-◌, ◌≤◌, [], ◌∷◌, length, map}
use Rattle.java_tree.specs.KeptPlaces.{kept, each_puts, expr_places}
use Rattle.java_tree.specs.View.{expr_of}
use Rattle.java_parser_grammar.specs.Taking.{commas}
use Rattle.java_parser_grammar.specs.StatementReading.{run_at}
use Rattle.java_parser_grammar.specs.JavaReaders.{method_readers}
use Rattle.java_parser_types.specs.LedPlaces.{LeadsOn}
use Rattle.java_parser_types.specs.Tokens.{spelled}
use Rattle.java_parser_types.specs.Finishing.{finished}
use Rattle.java_parser_types.specs.Endings.{as_they_are}
use Rattle.java_parser_methods.proofs.heads.more_runs.Given as goal

abbrev pub invariant-loop : goal.invariant-loop
invariant-loop l = record {
  gives : finished as_they_are (map expr_of l.items.items) (commas (run_at method_readers l.limit)
      (length (map spelled l.tokens) - l.counter) (map spelled l.rest)) ≡ finished as_they_are (expr_of l.fn.first.value
      ∷ []) (commas (run_at method_readers l.limit) (length (map spelled l.tokens)) (map spelled l.tokens));
  places : LeadsOn (expr_places l.fn.first.value) (each_puts (map expr_places l.items.items)) (kept l.tokens)
      (kept l.rest);
  shorter : length l.rest ≤ length l.tokens;
}
