use Rattle.core_lowering_rules.specs.TreesOf.{expr_of}
use Rattle.core_lowering_locks_pairs.proofs.Operators.{with_arguments}
use Rattle.core_lowering_locks_pairs.proofs.calls.without_arguments.Goals as goal

pub returns-in-len1-up : goal.returns-in-len1-up
returns-in-len1-up c =
    with_arguments (expr_of c.args.on.now) c.args.name.now c.args.arguments.now c.in-len1-up.len_at_least
