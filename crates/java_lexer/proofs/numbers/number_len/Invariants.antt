use Rattle.std.proofs.Common.{◌≡◌, ◌+◌, drop}
use Rattle.java_lexer.specs.Scanning.{number_len}
use Rattle.java_lexer.proofs.numbers.number_len.Given as goal

abbrev pub invariant-loop-i : goal.invariant-loop-i
invariant-loop-i l = number_len l.hex l.first l.rest ≡ l.i + number_len l.hex l.before (drop l.i l.rest)
