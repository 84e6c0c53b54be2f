use Rattle.std.proofs.Common.{◌≡◌, ◌+◌, ◌*◌, ◌++◌, drop}
use Rattle.core_code.specs.Calls.{rank_of}
use Rattle.core_code.specs.Program.{core}
use Rattle.core_ways.specs.Counts.{height_of, part_height}
use Rattle.core_ways.specs.Ways.{trip_of, trip_along}
use Rattle.core_ways.proofs.turns.+turning.Given as goal

abbrev pub decreases-push_turns : goal.decreases-push_turns
decreases-push_turns l = 3 * height_of (core l.program.now) l.parts.now + 1

abbrev pub decreases-push_part : goal.decreases-push_part
decreases-push_part l = 3 * part_height (core l.program.now) l.part

abbrev pub decreases-push_method : goal.decreases-push_method
decreases-push_method l = 3 * rank_of (core l.program.now) l.method + 2

-- the turns so far, and then those of what is left, are those of the whole
abbrev pub invariant-push_turns-loop-part : goal.invariant-push_turns-loop-part
invariant-push_turns-loop-part l =
    let trips = trip_of (core l.program) in
    l.turns.items ++ (trip_along trips (drop l.part-index l.parts)).turns ≡
    l.fn.turns.items ++ (trip_along trips l.parts).turns
