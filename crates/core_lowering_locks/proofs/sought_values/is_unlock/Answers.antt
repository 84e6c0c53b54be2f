use Rattle.core_lowering_locks.proofs.Standing.{arguments_unlock_nothing}
use Rattle.core_lowering_locks.proofs.sought_values.is_unlock.Goals as goal

pub returns-in-len1-up : goal.returns-in-len1-up
returns-in-len1-up c = arguments_unlock_nothing c.args.x.now c.args.arguments.now c.in-len1-up.len_at_least
