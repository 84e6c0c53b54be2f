use Rattle.std.proofs.Common.{false, refl}
use Rattle.core_lowering_rules.specs.Trees.{is_this}
use Rattle.core_lowering_rules.proofs.TreeForms.{call-arm, new-arm}
use Rattle.core_lowering_locks_pairs.proofs.Operators.{binary-arm, prefix-arm, binary_is_no_this, prefix_is_no_this}
use Rattle.core_lowering_locks_pairs.proofs.names.is_this.Goals as goal

pub returns-in-Binary : goal.returns-in-Binary
returns-in-Binary c =
    binary-arm is_this false binary_is_no_this c.args.e.now c.in-Binary.field-0 c.in-Binary.field-1
    c.in-Binary.field-2 c.in-Binary.is

pub returns-in-Prefix : goal.returns-in-Prefix
returns-in-Prefix c =
    prefix-arm is_this false prefix_is_no_this c.args.e.now c.in-Prefix.field-0 c.in-Prefix.field-1 c.in-Prefix.is

pub returns-in-Call : goal.returns-in-Call
returns-in-Call c = call-arm is_this false (λ y es. refl) (λ e y es. refl) c.args.e.now c.in-Call.field-0 c.in-Call.is

pub returns-in-New : goal.returns-in-New
returns-in-New c =
    new-arm is_this false (λ place t es. refl) (λ place t es. refl) (λ place es. refl) (λ place is. refl) c.args.e.now
    c.in-New.field-0 c.in-New.is
