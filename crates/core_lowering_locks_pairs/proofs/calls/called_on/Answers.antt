use Rattle.std.proofs.Common.{sym, ap}
use Rattle.core_lowering_rules.specs.Trees.{plain_call}
use Rattle.core_lowering_rules.proofs.TreeForms.{own-call}
use Rattle.core_lowering_locks_pairs.proofs.calls.called_on.Goals as goal

pub returns-in-None : goal.returns-in-None
returns-in-None c = sym (ap plain_call (own-call c.args.call.now c.in-None.is))
