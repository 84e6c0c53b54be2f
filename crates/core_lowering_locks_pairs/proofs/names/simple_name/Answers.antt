use Rattle.std.proofs.Common.{None, refl}
use Rattle.core_lowering_rules.specs.Trees.{simple_name}
use Rattle.core_lowering_rules.proofs.TreeForms.{call-arm, new-arm}
use Rattle.core_lowering_locks_pairs.proofs.Operators.{binary-arm, prefix-arm, binary_is_no_name, prefix_is_no_name}
use Rattle.core_lowering_locks_pairs.proofs.names.simple_name.Goals as goal

pub returns-in-Binary : goal.returns-in-Binary
returns-in-Binary c =
    binary-arm simple_name None binary_is_no_name c.args.e.now c.in-Binary.field-0 c.in-Binary.field-1
    c.in-Binary.field-2 c.in-Binary.is

pub returns-in-Prefix : goal.returns-in-Prefix
returns-in-Prefix c =
    prefix-arm simple_name None prefix_is_no_name c.args.e.now c.in-Prefix.field-0 c.in-Prefix.field-1 c.in-Prefix.is

pub returns-in-Call : goal.returns-in-Call
returns-in-Call c =
    call-arm simple_name None (λ y es. refl) (λ e y es. refl) c.args.e.now c.in-Call.field-0 c.in-Call.is

pub returns-in-New : goal.returns-in-New
returns-in-New c =
    new-arm simple_name None (λ place t es. refl) (λ place t es. refl) (λ place es. refl) (λ place is. refl)
    c.args.e.now c.in-New.field-0 c.in-New.is
