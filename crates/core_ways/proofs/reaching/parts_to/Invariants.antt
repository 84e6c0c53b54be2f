use Rattle.std.proofs.Common.{◌≡◌, ◌++◌}
use Rattle.core_code.specs.Calls.{rank_of}
use Rattle.core_code.specs.Program.{core}
use Rattle.core_ways.specs.Ways.{way_parts}
use Rattle.core_ways.proofs.reaching.parts_to.Given as goal

-- the parts so far, and then those from here on, are the whole
abbrev pub invariant-loop-parts : goal.invariant-loop-parts
invariant-loop-parts l =
    l.parts.items ++ way_parts (core l.program) l.method l.access ≡ way_parts (core l.program) l.fn.method l.fn.access

abbrev pub decreases-loop-parts : goal.decreases-loop-parts
decreases-loop-parts l = rank_of (core l.program) l.method
