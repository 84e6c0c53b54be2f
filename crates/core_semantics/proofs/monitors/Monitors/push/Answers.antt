use Rattle.core_semantics.proofs.MonitorLemmas.{has_pushed}
use Rattle.core_semantics.proofs.monitors.Monitors.push.Goals as goal

pub invariant_of-self-2 : goal.invariant_of-self-2
invariant_of-self-2 c =
    has_pushed c.self.inside.index c.put.new.index c.self.inside.held.items c.put.new.held.items c.args.monitor
    c.in-Ok.copy c.in-Ok.ensures c.self.invariant c.in-Ok-put.ensures.ok
