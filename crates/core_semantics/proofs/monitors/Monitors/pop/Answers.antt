use Rattle.std.proofs.Common.{List, ap, ◌∙◌, drop, reverse}
use Rattle.core_semantics.specs.declared.answer.Holder.{Holder}
use Rattle.core_semantics.proofs.MonitorLemmas.{has_popped, seen-popped}
use Rattle.core_semantics.proofs.monitors.Monitors.pop.Goals as goal

pub invariant_of-self : goal.invariant_of-self
invariant_of-self c =
    has_popped c.self.inside.index c.take.new.index c.self.inside.held.items c.take.new.held.items c.self.invariant
    c.take.ensures

pub returns : goal.returns
returns c =
    seen-popped c.self.inside.index c.take.new.index (reverse c.self.inside.held.items)
    (reverse c.take.new.held.items) c.take.ensures
    ∙ ap (λ (monitors : List Holder). drop 1 monitors) c.self.view_is
