use Rattle.core_semantics.proofs.MonitorLemmas.{has_none}
use Rattle.core_semantics.proofs.monitors.Monitors.new.Goals as goal

pub invariant_of-result : goal.invariant_of-result
invariant_of-result c = has_none c.new-2.result c.new.result.items c.new-2.ensures.empty c.new.ensures.items
