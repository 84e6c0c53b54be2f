use Rattle.std.proofs.Common.{◌≡◌, ◌||◌, false, refl, ap, ◌∙◌, rules}
use Rattle.java_tree.specs.declared.expressions.Expression.{Expression}
use Rattle.core_lowering_rules.specs.TreesOf.{expr_of}
use Rattle.core_lowering_rules.specs.Sought.{Sought, does_stand}
use Rattle.core_lowering_rules.proofs.TreeForms.{call-arm, new-arm}
use Rattle.core_lowering_locks_pairs.proofs.Operators.{binary-arm, prefix-arm}
use Rattle.core_lowering_locks.specs.Seen.{sought_seen}
use Rattle.core_lowering_locks.proofs.Standing.{in_left, binary_is_no_access, prefix_is_no_access}
use Rattle.core_lowering_locks.proofs.Standing.{assignment_in, binary_in}
use Rattle.core_lowering_locks.proofs.sought_values.+sought_values.Goals as goal

pub does_left_stand-returns-in-Binary : goal.does_left_stand-returns-in-Binary
does_left_stand-returns-in-Binary t c =
    binary-arm (in_left (sought_seen c.args.sought)) false (binary_is_no_access (sought_seen c.args.sought))
    c.args.e.now c.in-Binary.field-0 c.in-Binary.field-1 c.in-Binary.field-2 c.in-Binary.is

pub does_left_stand-returns-in-Prefix : goal.does_left_stand-returns-in-Prefix
does_left_stand-returns-in-Prefix t c =
    prefix-arm (in_left (sought_seen c.args.sought)) false (prefix_is_no_access (sought_seen c.args.sought))
    c.args.e.now c.in-Prefix.field-0 c.in-Prefix.field-1 c.in-Prefix.is

pub does_left_stand-returns-in-Call : goal.does_left_stand-returns-in-Call
does_left_stand-returns-in-Call t c =
    call-arm (in_left (sought_seen c.args.sought)) false (λ y es. refl) (λ e y es. refl) c.args.e.now c.in-Call.field-0
    c.in-Call.is

pub does_left_stand-returns-in-New : goal.does_left_stand-returns-in-New
does_left_stand-returns-in-New t c =
    new-arm (in_left (sought_seen c.args.sought)) false (λ place t es. refl) (λ place t es. refl) (λ place es. refl)
    (λ place is. refl) c.args.e.now c.in-New.field-0 c.in-New.is

pub does_stand-returns-in-Assign : goal.does_stand-returns-in-Assign
does_stand-returns-in-Assign t c =
    let sought : Sought = sought_seen c.args.sought in
    let a : c.deref.result.now ≡ c.in-Assign.a.value = search rules in
    let b : c.deref-in-Assign.result.now ≡ c.in-Assign.b.value = search rules in
    c.does_assignment_stand.ensures
    ∙ ap (λ (e : Expression). in_left sought (expr_of e) || does_stand sought (expr_of c.deref-in-Assign.result.now)) a
    ∙ ap (λ (e : Expression). in_left sought (expr_of c.in-Assign.a.value) || does_stand sought (expr_of e)) b
    ∙ assignment_in sought c.args.e.now c.in-Assign.a c.in-Assign.field-1 c.in-Assign.b c.in-Assign.is

pub does_stand-returns-in-Binary : goal.does_stand-returns-in-Binary
does_stand-returns-in-Binary t c =
    let sought : Sought = sought_seen c.args.sought in
    let a : c.deref-in-Binary.result.now ≡ c.in-Binary.a.value = search rules in
    let b : c.deref-in-Binary-2.result.now ≡ c.in-Binary.b.value = search rules in
    c.does_either_stand.ensures
    ∙ ap (λ (e : Expression). does_stand sought (expr_of e)
    || does_stand sought (expr_of c.deref-in-Binary-2.result.now)) a
    ∙ ap (λ (e : Expression). does_stand sought (expr_of c.in-Binary.a.value) || does_stand sought (expr_of e)) b
    ∙ binary_in sought c.args.e.now c.in-Binary.a c.in-Binary.field-1 c.in-Binary.b c.in-Binary.is
