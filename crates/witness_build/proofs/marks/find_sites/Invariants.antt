use Rattle.core_code.specs.Program.{core}
use Rattle.core_ways_sites.specs.Known.{IsKnown}
use Rattle.witness_build.proofs.marks.find_sites.Given as goal

-- what is known of ways is right
abbrev pub invariant-loop-warning : goal.invariant-loop-warning
invariant-loop-warning l = IsKnown (core l.program) l.known
