use Rattle.std.proofs.Common.{◌++◌, ap}
use Rattle.core_semantics.proofs.Gathered.{one_put, all_put}
use Rattle.core_semantics.proofs.copies.values_copied.Goals as goal

pub loop-value-init : goal.loop-value-init
loop-value-init c = ap (λ vs. vs ++ c.args.values.now) c.new-copies.ensures.items

pub loop-value-preserved : goal.loop-value-preserved
loop-value-preserved c =
    one_put c.args.values.now c.loop-value.copies.items c.push.new.self.items c.args.values.now c.loop-value.value-index
    c.value-item.result c.in-Ok.copy c.loop-value-test.true c.value-item.is c.in-Ok.ensures
    c.in-Ok-push.ensures.items c.loop-value.invariant

pub returns : goal.returns
returns c =
    all_put c.args.values.now c.loop-value.copies.items c.args.values.now c.loop-value.value-index
    c.loop-value-test.false c.loop-value.invariant
