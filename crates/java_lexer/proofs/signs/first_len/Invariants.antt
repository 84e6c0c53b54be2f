use Rattle.std.proofs.Common.{◌≡◌, map, drop}
use Rattle.java_lexer.specs.Scanning.{first_len}
use Rattle.java_lexer.proofs.signs.first_len.Given as goal

abbrev pub invariant-loop-sign : goal.invariant-loop-sign
invariant-loop-sign l = first_len (map (λ sign. sign.now) (drop l.sign-index l.table)) l.bytes ≡ first_len
    (map (λ sign. sign.now) l.table) l.bytes
