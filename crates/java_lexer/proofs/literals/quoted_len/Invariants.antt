use Rattle.std.proofs.Common.{◌≡◌, ◌-◌, ◌≤◌, length}
use Rattle.java_lexer.specs.Scanning.{quoted_len}
use Rattle.java_lexer.proofs.Later.{later}
use Rattle.java_lexer.proofs.literals.quoted_len.Given as goal

abbrev pub invariant-loop-first : goal.invariant-loop-first
invariant-loop-first l = (length l.rest ≤ length l.bytes)
    × (later (length l.bytes - length l.rest) (quoted_len l.quote l.rest) ≡ quoted_len l.quote l.bytes)

abbrev pub decreases-loop-first : goal.decreases-loop-first
decreases-loop-first l = length l.rest
