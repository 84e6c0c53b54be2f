use Rattle.std.proofs.Common.{◌≡◌, ◌+◌, ◌≤◌, map, length, take, drop}
use Rattle.java_parser_types.specs.Tokens.{spelled}
use Rattle.java_parser.specs.LastParts.{Going, open_of, scanned}
use Rattle.java_parser.proofs.last_parts.last_part.Given as goal

abbrev pub invariant-loop-token : goal.invariant-loop-token
invariant-loop-token l = record {
  behind : scanned (map spelled (drop (length l.rest) l.tokens)) ≡ Going l.behind;
  front : l.rest ≡ take (length l.rest) l.tokens;
  within : length l.rest ≤ length l.tokens;
  shallow : open_of l.behind + length l.rest ≤ length l.tokens;
}

abbrev pub decreases-loop-token : goal.decreases-loop-token
decreases-loop-token l = length l.rest
