use Rattle.std.proofs.Common.{[], ◌∷◌, length, take, get_or, ap, arith}
use Rattle.std.proofs.lemmas.List.{take_more}
use Rattle.racer_base.specs.declared.ids.MethodId.{MethodId}
use Rattle.core_code.specs.CalleeRows.{rows_in}
use Rattle.core_code.specs.Counting.{weigh}
use Rattle.core_code.specs.Chains.{row_of}
use Rattle.summary_store.proofs.Weights.{weigh-append}
use Rattle.summary_store.proofs.starting.edge_count.Goals as goal

pub loop-i-preserved : goal.loop-i-preserved
loop-i-preserved c =
    let x : MethodId = record { 0 = 0 } in
    let f = λ (m : MethodId). length (row_of (rows_in c.args.rows.now) m) in
    let more = ap (weigh f) (take_more c.args.methods.now c.loop-i.i x c.loop-i-test.true) in
    let sum = weigh-append f (take c.loop-i.i c.args.methods.now) (get_or c.args.methods.now c.loop-i.i x ∷ []) in
    let row = ap length c.row.ensures in
    let count = c.in_ok-count.ensures in
    omega (arith, c.loop-i.invariant)
