use Rattle.std.proofs.Common.{◌-◌, ◌<◌, ◌≤◌, length, drop, arith}
use Rattle.core_lowering_drafts.specs.EndSets.{seen_asked}
use Rattle.core_lowering_drafts.proofs.Backwards.{one-before}
use Rattle.core_lowering_drafts.proofs.Marks.{shape-next, shapes-next}
use Rattle.core_lowering_drafts.proofs.ahead.look_ahead.Goals as goal

pub loop-i-preserved : goal.loop-i-preserved
loop-i-preserved c =
    let items = c.args.items.now in
    let i = c.loop-i.i in
    let some : 0 < i = omega (arith, c.loop-i-test.true) in
    let within : i ≤ length items = omega (arith, c.loop-i.auto.i) in
    let is = one-before items i c.index-items-i.result some within c.index-items-i.is in
    record {
      ahead =
          shapes-next (drop i items) (drop (i - 1) items) c.index-items-i.result (seen_asked c.args.asked)
          c.loop-i.behind c.loop-i.ahead.items c.push.new.self.items is c.loop-i.invariant.behind
          c.loop-i.invariant.ahead c.in_ok-push.ensures.items;
      behind =
          shape-next (drop i items) (drop (i - 1) items) c.index-items-i.result (seen_asked c.args.asked)
          c.loop-i.behind c.in_ok-behind.behind is c.loop-i.invariant.behind c.in_ok-behind.ensures;
    }
