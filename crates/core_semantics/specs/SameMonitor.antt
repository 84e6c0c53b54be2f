-- A contract of a public call rests on this: the laws of `==` at monitors, and of their order, which ties the same
-- ones.
use Rattle.std.proofs.Common.{◌≡◌, ◌∷◌, ◌&&◌, nat_eq, refl, sym, ap, ◌∙◌}
use Rattle.std.specs.Cmp.{IsTotalOrder, IsPartialEquivalence, IsEquivalence, IsPartialOrder}
use Rattle.std.specs.Cmp.{equiv, partial_order_from_agreeing_total}
use Rattle.std.specs.Cmp.Lexicographic.{nat_list_cmp_total, nat_list_eq_equiv, pointwise, same_text, texts_ties}
use Rattle.std.specs.Ordering.{as_partial_cmp, eq_by_cmp}
use Rattle.core_code.specs.declared.code.LockKind.{LockKind}
use Rattle.core_code.specs.declared.code.LockKind.TheVariants.{Own, Explicit}
use Rattle.core_semantics_monitors.specs.Kinds.{lock_kind_number}
use Rattle.core_semantics.specs.declared.answer.Holder.{Holder}
use Rattle.core_semantics.specs.declared.answer.Holder.TheVariants.{Object as Of, Outside}
use Rattle.core_semantics.specs.Objects.{same_lock_kind, same_monitor}
use Rattle.core_semantics.specs.Order.{holder_cmp, holder_key}
use Rattle.core_semantics.specs.Same.{same_object-key, and_true, and_false}

kinds_by_number : (j k : LockKind) → same_lock_kind j k ≡ nat_eq (lock_kind_number j) (lock_kind_number k)
kinds_by_number Own Own = refl
kinds_by_number Own Explicit = refl
kinds_by_number Explicit Own = refl
kinds_by_number Explicit Explicit = refl

-- monitors are the same where their keys are
same_monitor-key : (a b : Holder) → same_monitor a b ≡ pointwise nat_eq (holder_key a) (holder_key b)
same_monitor-key (Of j a) (Of k b) = (λ i. kinds_by_number j k i && same_object-key a b i)
same_monitor-key (Of j a) (Outside k) = and_false (nat_eq (lock_kind_number j) (lock_kind_number k))
same_monitor-key (Outside j) (Of k b) = and_false (nat_eq (lock_kind_number j) (lock_kind_number k))
same_monitor-key (Outside j) (Outside k) =
    kinds_by_number j k ∙ and_true (nat_eq (lock_kind_number j) (lock_kind_number k))

-- the laws of `==` at monitors
pub same_monitor-laws : IsPartialEquivalence same_monitor
same_monitor-laws =
    record {
      symm = λ a b. same_monitor-key a b ∙ nat_list_eq_equiv.symm (holder_key a) (holder_key b)
          ∙ sym (same_monitor-key b a);
      trans = λ a b c ab bc.
          let keys : holder_key a ≡ holder_key b =
          same_text (holder_key a) (holder_key b) (sym ab ∙ same_monitor-key a b) in
          same_monitor-key a c ∙ ap (λ key. pointwise nat_eq key (holder_key c)) keys ∙ sym (same_monitor-key b c) ∙ bc;
    }

pub same_monitor-equivalence : IsEquivalence same_monitor
same_monitor-equivalence =
    equiv same_monitor-laws (λ a. same_monitor-key a a ∙ nat_list_eq_equiv.refl (holder_key a))

-- the order ties the same monitors
pub monitors_tied : (a b : Holder) → eq_by_cmp holder_cmp a b ≡ same_monitor a b
monitors_tied a b = sym (texts_ties (holder_key a) (holder_key b)) ∙ sym (same_monitor-key a b)

pub holder_cmp-total : IsTotalOrder holder_cmp
holder_cmp-total =
    record {
      antisymm = λ a b. nat_list_cmp_total.antisymm (holder_key a) (holder_key b);
      trans = λ a b c. nat_list_cmp_total.trans (holder_key a) (holder_key b) (holder_key c);
      congr = λ a b c. nat_list_cmp_total.congr (holder_key a) (holder_key b) (holder_key c);
    }

pub holder_cmp-partial : IsPartialOrder same_monitor (as_partial_cmp holder_cmp)
holder_cmp-partial =
    partial_order_from_agreeing_total holder_cmp holder_cmp-total (λ a b. refl) (λ a b. sym (monitors_tied a b))
