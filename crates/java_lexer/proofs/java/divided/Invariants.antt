use Rattle.std.proofs.Common.{◌≡◌, ◌+◌, ◌-◌, ◌≤◌, ◌++◌, length, drop}
use Rattle.std.specs.List.{fold}
use Rattle.java_lexer.specs.Places.{advance, spot_behind}
use Rattle.java_lexer.specs.Divisions.{pieces, joined, undivided}
use Rattle.java_lexer.specs.Tokens.{tokens_from}
use Rattle.java_lexer.specs.JavaKinds.{java_lexis}
use Rattle.java_lexer.specs.JavaTokens.{java_tokens_of, java_tokens}
use Rattle.java_lexer.proofs.java.divided.Given as goal

abbrev pub invariant-loop-rest : goal.invariant-loop-rest
invariant-loop-rest l = record {
  tokens : l.tokens ++ tokens_from (java_tokens_of l.file) l.spot
      (pieces java_lexis l.rest) ≡ java_tokens l.file l.bytes;
  place : fold advance l.spot l.rest ≡ spot_behind l.bytes;
  passed : fold advance l.spot (joined (pieces java_lexis l.rest)) ≡ spot_behind (joined (pieces java_lexis l.bytes));
  undivided : undivided java_lexis l.rest ≡ undivided java_lexis l.bytes;
  fits : length l.rest ≤ length l.bytes;
  rest : l.rest ≡ drop (length l.bytes - length l.rest) l.bytes;
  line : l.spot.line + length l.rest ≤ 1 + length l.bytes;
  column : l.spot.column + length l.rest ≤ 1 + length l.bytes;
  one : 1 ≤ l.spot.column;
}

abbrev pub decreases-loop-rest : goal.decreases-loop-rest
decreases-loop-rest l = length l.rest
