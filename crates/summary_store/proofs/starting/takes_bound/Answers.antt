use Rattle.std.proofs.Common.{length, ap, ◌∙◌}
use Rattle.std.proofs.Common.{arith}
use Rattle.core_code.specs.Program.{core}
use Rattle.core_code.specs.CalleeRows.{rows_in, rows_of}
use Rattle.core_code.specs.Counting.{analysed_methods}
use Rattle.summary_store.proofs.Opening.{rows_fit, room_same}
use Rattle.summary_store.proofs.starting.takes_bound.Goals as goal

pub edge_count-requires : goal.edge_count-requires
edge_count-requires c =
    rows_fit (core c.args.program.now) c.args.rows.now c.as_slice.result.now c.requires (c.as_slice.ensures.value
    ∙ c.in_ok-methods.ensures)

pub returns : goal.returns
returns c = λ workers.
    (let items = c.as_slice.ensures.value ∙ c.in_ok-methods.ensures in
    let same = room_same (rows_in c.args.rows.now) (rows_of (core c.args.program.now)) c.as_slice.result.now
    (analysed_methods (core c.args.program.now)) c.requires.rows_are items in
    let few = ap length c.in_ok-methods.ensures in
    let count = ap length c.as_slice.ensures.value in
    omega (
      arith,
      same,
      few,
      count,
      c.in-Some.ensures,
      c.in-Some-checked_add.ensures,
      c.in-Some-checked_add-2.ensures,
      c.len.ensures,
      c.in_ok-methods.methods.ok.0,
    ))
