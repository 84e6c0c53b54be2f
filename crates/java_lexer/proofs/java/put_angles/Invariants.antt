use Rattle.std.proofs.Common.{◌≡◌, ◌+◌, ◌≤◌, ◌++◌, drop, false}
use Rattle.java_lexer.specs.JavaTokens.{angle_tokens}
use Rattle.java_lexer.proofs.java.put_angles.Given as goal

abbrev pub invariant-loop-byte : goal.invariant-loop-byte
invariant-loop-byte l = record {
  tokens : l.tokens ++ angle_tokens l.file l.at l.glued
      (drop l.byte-index l.bytes) ≡ l.fn.tokens ++ angle_tokens l.file l.fn.spot false l.bytes;
  line : l.at.line ≤ l.fn.spot.line + l.byte-index;
  column : l.at.column ≤ l.fn.spot.column + l.byte-index;
  one : 1 ≤ l.at.column;
}
