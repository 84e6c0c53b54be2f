use Rattle.core_code.proofs.WalkParts.{methods_more}
use Rattle.core_code.proofs.walk.all_methods.Goals as goal

pub loop-place-preserved : goal.loop-place-preserved
loop-place-preserved c =
    methods_more c.loop-place.methods.items c.in_ok-method_at.field-0 c.loop-place.place c.push.new.self.items
    c.loop-place.invariant c.in_ok-method_at.ensures c.in_ok-push.ensures.items
