use Rattle.std.proofs.Common.{◌≡◌, length}
use Rattle.java_lexer.specs.Literals.{behind_u_run}
use Rattle.java_lexer.proofs.escapes.behind_u_run.Given as goal

abbrev pub invariant-loop-first : goal.invariant-loop-first
invariant-loop-first l = behind_u_run l.rest ≡ behind_u_run l.bytes

abbrev pub decreases-loop-first : goal.decreases-loop-first
decreases-loop-first l = length l.rest
