use Rattle.std.proofs.Common.{◌≡◌, ◌<◌, ◌≤◌, take}
use Rattle.java_lexer.specs.Literals.{hex_value}
use Rattle.java_lexer.proofs.escapes.hex_value.Given as goal

abbrev pub invariant-loop-digit : goal.invariant-loop-digit
invariant-loop-digit l = record {
  value : l.value ≡ hex_value (take l.digit-index l.digits);
  none : l.digit-index ≡ 0 → l.value ≡ 0;
  one : l.digit-index ≤ 1 → l.value < 16;
  two : l.digit-index ≤ 2 → l.value < 256;
  three : l.digit-index ≤ 3 → l.value < 4096;
}
