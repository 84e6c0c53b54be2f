use Rattle.std.proofs.Common.{◌-◌, ◌<◌, ◌≤◌, length, drop, arith}
use Rattle.core_lowering_drafts.specs.EndSets.{seen}
use Rattle.core_lowering_drafts.proofs.Backwards.{one-before}
use Rattle.core_lowering_drafts.proofs.DraftEnds.{ends-next}
use Rattle.core_lowering_drafts.proofs.joined.ends_of.Goals as goal

pub loop-i-preserved : goal.loop-i-preserved
loop-i-preserved c =
    let pieces = c.args.pieces.now in
    let i = c.loop-i.i in
    let some : 0 < i = omega (arith, c.loop-i-test.true) in
    let within : i ≤ length pieces = omega (arith, c.loop-i.auto.i) in
    ends-next (seen c.put_before.new.self) (seen c.in_ok-first.first) (seen c.loop-i.ends) c.index-pieces-i.result
    (drop i pieces) (drop (i - 1) pieces) (one-before pieces i c.index-pieces-i.result some within c.index-pieces-i.is)
    c.in_ok-put_before.ensures c.in_ok-first.ensures c.loop-i.invariant
