use Rattle.std.proofs.Common.{◌≡◌, ◌≤◌, List, ◌++◌, length, map}
use Rattle.java_tree.specs.declared.words.Spelled.{Spelled}
use Rattle.java_tree.specs.KeptPlaces.{kept, behind_name}
use Rattle.java_parser_types.specs.Tokens.{spelled}
use Rattle.java_parser_types.specs.Finishing.{finished}
use Rattle.java_parser_types.specs.Endings.{as_they_are}
use Rattle.java_parser_methods.specs.ClassReading.{class_words_at}
use Rattle.java_parser_methods.proofs.local_classes.class_words.Given as goal

abbrev pub invariant-loop-first : goal.invariant-loop-first
invariant-loop-first l = record {
  gives : finished as_they_are l.items.items (class_words_at (map spelled l.rest))
      ≡ class_words_at (map spelled l.tokens);
  unnamed : (more : List Spelled) → behind_name (l.items.items ++ more) ≡ behind_name more;
  places : kept l.rest ≡ kept l.tokens;
  shorter : length l.rest ≤ length l.tokens;
}

abbrev pub decreases-loop-first : goal.decreases-loop-first
decreases-loop-first l = length l.rest
