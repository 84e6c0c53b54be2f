use Rattle.std.proofs.Common.{◌≡◌, ◌+◌, ◌*◌, ◌≤◌, drop}
use Rattle.core_code.specs.Calls.{rank_of}
use Rattle.core_code.specs.Program.{core}
use Rattle.core_ways.specs.Counts.{added, count_of, height_of, part_height}
use Rattle.core_ways.specs.Passings.{IsTable}
use Rattle.core_ways.specs.Ways.{trip_of, trip_along}
use Rattle.core_ways.proofs.counting.+counting.Given as goal

-- parts, then a part, then the method that it passes
abbrev pub decreases-count_along : goal.decreases-count_along
decreases-count_along l = 3 * height_of (core l.program.now) l.parts.now + 1

abbrev pub decreases-count_part : goal.decreases-count_part
decreases-count_part l = 3 * part_height (core l.program.now) l.part

abbrev pub decreases-count_method : goal.decreases-count_method
decreases-count_method l = 3 * rank_of (core l.program.now) l.method + 2

-- what is counted so far, and then what is left, is the whole
abbrev pub invariant-count_along-loop-part : goal.invariant-count_along-loop-part
invariant-count_along-loop-part l =
    let trips = trip_of (core l.program) in
    record {
      table : IsTable (core l.program) l.table;
      within : l.count.steps ≤ 4294967295;
      count : added l.count (count_of (trip_along trips (drop l.part-index l.parts))) ≡
          count_of (trip_along trips l.parts);
    }
