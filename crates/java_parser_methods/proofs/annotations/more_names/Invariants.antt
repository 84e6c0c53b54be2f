use Rattle.std.proofs.Common.{◌≡◌, ◌-◌, ◌≤◌, [], ◌∷◌, length, map}
use Rattle.java_tree.specs.KeptPlaces.{Places, kept}
use Rattle.java_tree.specs.KeptPlaces.{each_marks, no_name}
use Rattle.java_parser_types.specs.LedPlaces.{Leads}
use Rattle.java_parser_grammar.specs.Taking.{after_name}
use Rattle.java_parser_grammar.specs.TypeReading.{points}
use Rattle.java_parser_types.specs.Tokens.{spelled}
use Rattle.java_parser_types.specs.Finishing.{finished}
use Rattle.java_parser_types.specs.Endings.{as_they_are}
use Rattle.java_parser_methods.proofs.annotations.more_names.Given as goal

abbrev pub invariant-loop : goal.invariant-loop
invariant-loop l = record {
  gives : finished as_they_are l.items.items (points after_name (length (map spelled l.tokens) - l.counter)
      (map spelled l.rest)) ≡ finished as_they_are (l.fn.first ∷ []) (points after_name
      (length (map spelled l.tokens)) (map spelled l.tokens));
  places : (start : Places) → Leads (no_name l.fn.first) start (kept l.tokens)
      → Leads (each_marks no_name l.items.items) start (kept l.rest);
  shorter : length l.rest ≤ length l.tokens;
}
