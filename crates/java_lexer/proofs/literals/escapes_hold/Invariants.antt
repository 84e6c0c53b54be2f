use Rattle.std.proofs.Common.{◌≡◌, length}
use Rattle.java_lexer.specs.Literals.{escapes_hold}
use Rattle.java_lexer.proofs.literals.escapes_hold.Given as goal

abbrev pub invariant-loop-first : goal.invariant-loop-first
invariant-loop-first l = escapes_hold l.rest ≡ escapes_hold l.content

abbrev pub decreases-loop-first : goal.decreases-loop-first
decreases-loop-first l = length l.rest
