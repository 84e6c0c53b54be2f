use Rattle.std.proofs.Common.{◌≡◌, ◌+◌, ◌≤◌, take}
use Rattle.std.specs.List.{fold}
use Rattle.java_lexer.specs.Places.{advance}
use Rattle.java_lexer.proofs.spot.Spot.behind.Given as goal

abbrev pub invariant-loop-byte : goal.invariant-loop-byte
invariant-loop-byte l = record {
  passed : l.spot ≡ fold advance l.fn.self (take l.byte-index l.bytes);
  line : l.spot.line ≤ l.fn.self.line + l.byte-index;
  column : l.spot.column ≤ l.fn.self.column + l.byte-index;
  one : 1 ≤ l.spot.column;
}
