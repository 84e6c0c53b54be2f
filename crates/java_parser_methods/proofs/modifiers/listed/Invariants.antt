use Rattle.std.proofs.Common.{◌≡◌, ◌-◌, ◌≤◌, [], length, map}
use Rattle.java_tree.specs.KeptPlaces.{kept}
use Rattle.java_tree.specs.KeptPlaces.{each_marks, modifier_marks}
use Rattle.java_parser_types.specs.LedPlaces.{Leads}
use Rattle.java_tree.specs.View.{modifier_of}
use Rattle.java_parser_methods.specs.ModifierReading.{listed_at}
use Rattle.java_parser_types.specs.Tokens.{spelled}
use Rattle.java_parser_types.specs.Finishing.{finished}
use Rattle.java_parser_types.specs.Endings.{as_they_are}
use Rattle.java_parser_methods.proofs.modifiers.listed.Given as goal

abbrev pub invariant-loop : goal.invariant-loop
invariant-loop l = record {
  gives : finished as_they_are (map modifier_of l.items.items)
      (listed_at l.words (length (map spelled l.tokens) - l.counter) (map spelled l.rest)) ≡ finished as_they_are []
      (listed_at l.fn.words (length (map spelled l.tokens)) (map spelled l.tokens));
  places : Leads (each_marks modifier_marks l.items.items) (kept l.tokens) (kept l.rest);
  shorter : length l.rest ≤ length l.tokens;
}
