use Rattle.std.proofs.Common.{◌≡◌, ◌≤◌, [], length, map}
use Rattle.java_tree.specs.KeptPlaces.{kept}
use Rattle.java_parser_grammar.specs.StatementReading.{class_from}
use Rattle.java_parser_lookahead.specs.AwaitedBrackets.{awaited_onto}
use Rattle.java_parser_types.specs.Tokens.{spelled}
use Rattle.java_parser_types.specs.Finishing.{finished}
use Rattle.java_parser_types.specs.Endings.{as_they_are}
use Rattle.java_parser_methods.specs.ClassReading.{Appends}
use Rattle.java_parser_methods.proofs.local_classes.class_from.Given as goal

abbrev pub invariant-loop-first : goal.invariant-loop-first
invariant-loop-first l = record {
  gives : finished as_they_are l.items.items (class_from (awaited_onto l.open.items []) (map spelled l.rest))
      ≡ finished as_they_are l.fn.items.items (class_from [] (map spelled l.tokens));
  places : Appends l.fn.items.items l.items.items (kept l.tokens) (kept l.rest);
  shorter : length l.rest ≤ length l.tokens;
}

abbrev pub decreases-loop-first : goal.decreases-loop-first
decreases-loop-first l = length l.rest
