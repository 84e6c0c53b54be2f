use Rattle.std.proofs.Common.{◌≡◌, ◌-◌, ◌≤◌, [], length, map}
use Rattle.java_tree.specs.KeptPlaces.{kept}
use Rattle.java_tree.specs.KeptPlaces.{each_marks, annotation_marks}
use Rattle.java_parser_types.specs.LedPlaces.{Leads}
use Rattle.java_tree.specs.View.{annotation_of}
use Rattle.java_parser_grammar.specs.BalancedReading.{annotations_at}
use Rattle.java_parser_types.specs.Tokens.{spelled}
use Rattle.java_parser_types.specs.Finishing.{finished}
use Rattle.java_parser_types.specs.Endings.{as_they_are}
use Rattle.java_parser_methods.proofs.annotations.annotations.Given as goal

abbrev pub invariant-loop : goal.invariant-loop
invariant-loop l = record {
  gives : finished as_they_are (map annotation_of l.items.items) (annotations_at (l.limit - l.counter)
      (map spelled l.rest)) ≡ finished as_they_are [] (annotations_at l.limit (map spelled l.tokens));
  places : Leads (each_marks annotation_marks l.items.items) (kept l.tokens) (kept l.rest);
  shorter : length l.rest ≤ length l.tokens;
}
