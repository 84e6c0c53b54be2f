use Rattle.std.proofs.Common.{None, refl}
use Rattle.core_lowering_rules.specs.Trees.{plain_call}
use Rattle.core_lowering_rules.proofs.TreeForms.{new-arm}
use Rattle.core_lowering_locks_pairs.proofs.Operators.{binary-arm, prefix-arm, binary_is_no_call, prefix_is_no_call}
use Rattle.core_lowering_locks_pairs.proofs.calls.plain_call.Goals as goal

pub returns-in-Binary : goal.returns-in-Binary
returns-in-Binary c =
    binary-arm plain_call None binary_is_no_call c.args.e.now c.in-Binary.field-0 c.in-Binary.field-1
    c.in-Binary.field-2 c.in-Binary.is

pub returns-in-Prefix : goal.returns-in-Prefix
returns-in-Prefix c =
    prefix-arm plain_call None prefix_is_no_call c.args.e.now c.in-Prefix.field-0 c.in-Prefix.field-1 c.in-Prefix.is

pub returns-in-New : goal.returns-in-New
returns-in-New c =
    new-arm plain_call None (λ place t es. refl) (λ place t es. refl) (λ place es. refl) (λ place is. refl)
    c.args.e.now c.in-New.field-0 c.in-New.is
