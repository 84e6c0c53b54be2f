use Rattle.std.proofs.Common.{◌+◌, arith, drop, length}
use Rattle.core_code.specs.CalleeRows.{different}
use Rattle.core_lowering.proofs.Counting.{counting-starts, opened, counting-goes_on}
use Rattle.core_lowering.proofs.LowRows.{low-at}
use Rattle.core_lowering.proofs.edges.count_different.Goals as goal

pub loop-callee-init : goal.loop-callee-init
loop-callee-init c = counting-starts c.args.stamps.now c.args.stamp c.args.callees.now c.requires.stamps

pub stamp_new-is_new-requires : goal.stamp_new-is_new-requires
stamp_new-is_new-requires c =
    let low = low-at (length c.args.stamps.now) c.args.callees.now c.loop-callee.callee-index (record { 0 = 0 })
    c.requires.callees c.loop-callee-test.true in
    let many = c.loop-callee.auto.stamps in
    omega (arith, low, many)

pub loop-callee-preserved : goal.loop-callee-preserved
loop-callee-preserved c =
    let all = c.args.callees.now in
    let i = c.loop-callee.callee-index in
    let e = c.stamp_new-is_new.ensures in
    let low = low-at (length c.args.stamps.now) all i (record { 0 = 0 }) c.requires.callees c.loop-callee-test.true in
    let many = c.loop-callee.auto.stamps in
    counting-goes_on c.loop-callee.stamps c.args.stamp c.loop-callee.count _ (drop (i + 1) all) (different all) _ _ _
    (opened c.loop-callee.stamps c.args.stamp c.loop-callee.count all i (record { 0 = 0 }) c.loop-callee-test.true
    c.loop-callee.invariant)
    e.new e.stamps (omega (arith, low, many)) c.in_ok-count.ensures
