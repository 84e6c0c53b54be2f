use Rattle.std.proofs.Common.{◌++◌, ◌-◌, ap, ◌∙◌, length, take, drop}
use Rattle.core_semantics.specs.Steps.{passed_from}
use Rattle.core_semantics.specs.View.{frame_of}
use Rattle.core_semantics.proofs.Frames.{top_of_stack}
use Rattle.core_semantics.proofs.Gathered.{one_put, all_put}
use Rattle.core_semantics.proofs.frame.Frame.passed.Goals as goal

pub loop-value-init : goal.loop-value-init
loop-value-init c =
    let all = c.as_slice-all.result.now in
    let k = c.saturating_sub.result in
    ap (λ vs. vs ++ take (length all - k) (drop k all)) c.new-values.ensures.items
    ∙ top_of_stack c.args.count k c.args.self.now.stack all c.as_slice-all.ensures c.saturating_sub.ensures

pub loop-value-preserved : goal.loop-value-preserved
loop-value-preserved c =
    let all = c.as_slice-all.result.now in
    let k = c.saturating_sub.result in
    one_put (take (length all - k) (drop k all)) c.loop-value.values.items c.push.new.self.items
    (passed_from (frame_of c.args.self.now) c.args.count) c.loop-value.value-index c.value-item.result c.in-Ok.copy
    c.loop-value-test.true c.value-item.is c.in-Ok.ensures c.in-Ok-push.ensures.items c.loop-value.invariant

pub returns : goal.returns
returns c =
    let all = c.as_slice-all.result.now in
    let k = c.saturating_sub.result in
    all_put (take (length all - k) (drop k all)) c.loop-value.values.items
    (passed_from (frame_of c.args.self.now) c.args.count) c.loop-value.value-index c.loop-value-test.false
    c.loop-value.invariant
