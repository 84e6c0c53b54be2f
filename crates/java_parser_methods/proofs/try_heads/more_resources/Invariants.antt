use Rattle.std.proofs.Common.{◌≡◌, ◌+◌, ◌-◌, ◌≤◌, [], ◌∷◌, suc, length, map}
use Rattle.java_tree.specs.KeptPlaces.{kept, each_puts, resource_places}
use Rattle.java_tree.specs.View.{resource_of}
use Rattle.java_parser_grammar.specs.StatementReading.{more_resources_at}
use Rattle.java_parser_grammar.specs.JavaReaders.{method_readers}
use Rattle.java_parser_methods.specs.RowReading.{resources_end}
use Rattle.java_parser_types.specs.LedPlaces.{LeadsOn}
use Rattle.java_parser_types.specs.Tokens.{spelled}
use Rattle.java_parser_methods.proofs.try_heads.more_resources.Given as goal

abbrev pub invariant-loop : goal.invariant-loop
invariant-loop l = record {
  gives : resources_end (map resource_of l.items.items) (more_resources_at method_readers l.limit
      (suc (length (map spelled l.tokens)) - l.counter) (map spelled l.rest)) ≡ resources_end (resource_of l.fn.first
      ∷ []) (more_resources_at method_readers l.limit (suc (length (map spelled l.tokens))) (map spelled l.tokens));
  places : LeadsOn (resource_places l.fn.first) (each_puts (map resource_places l.items.items)) (kept l.tokens)
      (kept l.rest);
  few : l.counter + length l.rest ≤ length l.tokens;
}
