use Rattle.std.proofs.Common.{◌≡◌, ◌+◌, ◌-◌, ◌≤◌, length, map}
use Rattle.java_tree.specs.KeptPlaces.{kept}
use Rattle.java_parser_grammar.specs.TypeReading.{brackets_at}
use Rattle.java_parser_types.specs.Tokens.{spelled}
use Rattle.java_parser_types.proofs.look.brackets.Given as goal

abbrev pub invariant-loop : goal.invariant-loop
invariant-loop l =
    let left = brackets_at (length (map spelled l.tokens) - l.counter) (map spelled l.rest) in
    record {
      gives : (l.count + left.0, left.1) ≡ brackets_at (length (map spelled l.tokens)) (map spelled l.tokens);
      places : kept l.rest ≡ kept l.tokens;
      within : l.count + length l.rest ≤ length l.tokens;
    }
