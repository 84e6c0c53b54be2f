use Rattle.std.proofs.Common.{◌++◌, ◌-◌, ◌<◌, ap, ◌∙◌, arith, length, replicate}
use Rattle.core_semantics.specs.declared.object.Value.TheVariants.{Null}
use Rattle.core_semantics.proofs.Frames.{one_more}
use Rattle.core_semantics.proofs.frame.with_nulls.Goals as goal

pub loop-values-preserved : goal.loop-values-preserved
loop-values-preserved c =
    let old = c.loop-values.values in
    let counted = c.len.ensures ∙ old.ok.0 in
    let less : length old.items < c.args.count = omega (arith, counted, c.loop-values-test.true) in
    ap (λ vs. vs ++ replicate (c.args.count - length vs) Null) c.in_ok-push.ensures.items
    ∙ one_more old.items Null c.args.count less
    ∙ c.loop-values.invariant
