use Rattle.std.proofs.Common.{◌≡◌, ◌-◌, ◌≤◌, length}
use Rattle.java_lexer.specs.Scanning.{closed_len}
use Rattle.java_lexer.proofs.Later.{later}
use Rattle.java_lexer.proofs.comments.closed_len.Given as goal

abbrev pub invariant-loop-after : goal.invariant-loop-after
invariant-loop-after l = (length l.rest ≤ length l.bytes)
    × (later (length l.bytes - length l.rest) (closed_len l.rest) ≡ closed_len l.bytes)

abbrev pub decreases-loop-after : goal.decreases-loop-after
decreases-loop-after l = length l.rest
