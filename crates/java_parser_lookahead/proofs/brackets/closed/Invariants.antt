use Rattle.std.proofs.Common.{◌≡◌, ◌≤◌, [], ◌∷◌, length, map}
use Rattle.java_tree.specs.KeptPlaces.{Places, kept}
use Rattle.java_tree.specs.KeptPlaces.{each_marks, no_place}
use Rattle.java_parser_types.specs.LedPlaces.{Leads}
use Rattle.java_parser_grammar.specs.BalancedReading.{closed_at}
use Rattle.java_parser_lookahead.specs.AwaitedBrackets.{closing, awaited_onto}
use Rattle.java_parser_types.specs.Tokens.{spelled}
use Rattle.java_parser_types.specs.Finishing.{finished}
use Rattle.java_parser_types.specs.Endings.{as_they_are}
use Rattle.java_parser_lookahead.proofs.brackets.closed.Given as goal

abbrev pub invariant-loop-inner : goal.invariant-loop-inner
invariant-loop-inner l = record {
  gives : finished as_they_are l.items.items (closed_at (awaited_onto l.open.items []) (map spelled l.rest))
      ≡ finished as_they_are (l.fn.first ∷ []) (closed_at (closing l.fn.bracket ∷ []) (map spelled l.tokens));
  places : (start : Places) → Leads (no_place l.fn.first) start (kept l.tokens)
      → Leads (each_marks no_place l.items.items) start (kept l.rest);
  shorter : length l.rest ≤ length l.tokens;
}

abbrev pub decreases-loop-inner : goal.decreases-loop-inner
decreases-loop-inner l = length l.rest
