use Rattle.std.proofs.Common.{◌+◌, drop, get_or, sym, ap, ◌∙◌, arith}
use Rattle.core_code.specs.Program.{core}
use Rattle.core_ways.specs.declared.count.Count.{Count}
use Rattle.core_ways.specs.declared.part.WayPart.TheVariants.{Step}
use Rattle.core_ways.specs.Counts.{added, count_of}
use Rattle.core_ways.specs.Ways.{trip_along, trip_of, trip_of_part}
use Rattle.core_ways.proofs.Counted.{counts-on}
use Rattle.core_ways.proofs.Tables.{kept-entry, height-of-method, part-within, trip-of-method, next-part}
use Rattle.core_ways.proofs.counting.+counting.Goals as goal

pub count_along-count_part-requires : goal.count_along-count_part-requires
count_along-count_part-requires t c =
    let within = part-within (core c.args.program.now) c.args.parts.now c.loop-part.part-index Step
    c.loop-part-test.true in
    (omega (arith, within, c.decreases), c.loop-part.invariant.table)

pub count_along-loop-part-preserved : goal.count_along-loop-part-preserved
count_along-loop-part-preserved t c =
    let trips = trip_of (core c.args.program.now) in
    let parts = c.args.parts.now in
    let at = c.loop-part in
    let i = at.part-index in
    let part = get_or parts i Step in
    let rest = trip_along trips (drop (i + 1) parts) in
    let steps = ap (λ (x : Count). x.steps) c.and-count.ensures in
    record {
      table = c.in_ok-count_part.ensures.table;
      within = omega (arith, steps);
      count =
          ap (λ (x : Count). added x (count_of rest)) c.and-count.ensures
          ∙ counts-on (trip_along trips (drop i parts)) at.count c.in_ok-count_part.field-0 (trip_of_part trips part)
          rest
          (trip_along trips parts) c.in_ok-count_part.ensures.count
          (next-part trips parts i Step c.loop-part-test.true) at.invariant.count;
    }

pub count_method-count_along-requires : goal.count_method-count_along-requires
count_method-count_along-requires t c =
    let low = height-of-method (core c.args.program.now) c.args.method c.as_slice.result.now
    c.args.program.now.ranks_there (c.as_slice.ensures.value ∙ c.in-Ok.ensures) in
    (omega (arith, low, c.decreases), c.requires)

pub count_method-returns-clause-table : goal.count_method-returns-clause-table
count_method-returns-clause-table t c =
    let program = core c.args.program.now in
    let m = c.args.method in
    let trips = trip_of program in
    let count = c.in-Ok-count_along.ensures.count
    ∙ ap count_of (sym (trip-of-method program m c.as_slice.result.now c.args.program.now.ranks_there
    (c.as_slice.ensures.value ∙ c.in-Ok.ensures))) in
    kept-entry program c.count_along.new.table c.insert.new.self m
    (record { parts = c.in-Ok.parts; count = c.in-Ok-count_along.count }) c.in-Ok-count_along.ensures.table
    (record { parts = c.in-Ok.ensures; count = count }) c.in_ok-insert.ensures.updates

pub count_method-returns-clause-count : goal.count_method-returns-clause-count
count_method-returns-clause-count t c =
    c.in-Ok-count_along.ensures.count
    ∙ ap count_of (sym (trip-of-method (core c.args.program.now) c.args.method c.as_slice.result.now
    c.args.program.now.ranks_there (c.as_slice.ensures.value ∙ c.in-Ok.ensures)))
