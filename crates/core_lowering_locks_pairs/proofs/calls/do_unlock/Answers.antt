use Rattle.core_lowering_rules.specs.TreesOf.{expr_of}
use Rattle.core_lowering_locks_pairs.proofs.JoinedStatements.{more_unlock_nothing}
use Rattle.core_lowering_locks_pairs.proofs.calls.do_unlock.Goals as goal

pub returns-in_default-2 : goal.returns-in_default-2
returns-in_default-2 c =
    more_unlock_nothing (expr_of c.args.e.now) c.args.finally.now c.in_default.len_at_least
