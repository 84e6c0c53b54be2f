-- Numbers by a relation that is one to one: what has a partner has its number, and all else gets a number that no
-- partner has, even or odd.
use Rattle.std.proofs.Common.{◌≡◌, ℕ, zero, suc, ◌+◌, ◌*◌, ◌<◌, ◌⊎◌, inl, inr, Bool, true, false, cond, Option}
use Rattle.std.proofs.Common.{None, Some, arith, length, nat_eq, refl, sym, ap, ◌∙◌}
use Rattle.std.proofs.lemmas.Bool.{cases_lt, eq-eqb, eqb-false, eqb-true, false≢true}
use Rattle.racer_base.proofs.Tests.{same_truth}
use Rattle.racer_base.specs.declared.ids.ClassId.{ClassId}
use Rattle.racer_base.specs.declared.ids.FieldId.{FieldId}
use Rattle.core_code.specs.Core.{Core}
use Rattle.transfer_ties.specs.Partners.{AreOneToOne}
use Rattle.transfer_ties.specs.Ties.{ties_classes, ties_fields}
use Rattle.transfer.proofs.OneToOne.{class_there, field_there}
use Rattle.transfer.proofs.Renumbering.{Renumbering}

-- the greatest number below n that passes
abbrev sought : (ℕ → Bool) → ℕ → Option ℕ
sought test zero = None
sought test (suc n) = cond (test n) (Some n) (sought test n)

passes : (test : ℕ → Bool) (n k : ℕ) → sought test n ≡ Some k → test k ≡ true
passes test zero k e = absurd cc
passes test (suc n) k e =
    elim (test n) as (λ b. test n ≡ b → cond b (Some n) (sought test n) ≡ Some k → test k ≡ true) [
      | true ↦ λ here is. let same : n ≡ k = cc in ap test (sym same) ∙ here
      | false ↦ λ here is. passes test n k is
    ] refl e

below_both : (k n : ℕ) → k < suc n → nat_eq k n ≡ false → k < n
below_both k n low other =
    elim (cases_lt k n) [
      | inl is ↦ is
      | inr high ↦ absurd (eqb-false k n other (omega arith))
    ]

none_passes : (test : ℕ → Bool) (n k : ℕ) → sought test n ≡ None → k < n → test k ≡ false
none_passes test zero k e low = absurd (omega arith)
none_passes test (suc n) k e low =
    elim (test n) as (λ b. test n ≡ b → cond b (Some n) (sought test n) ≡ None → test k ≡ false) [
      | true ↦ λ here is. absurd cc
      | false ↦ λ here is. elim (nat_eq k n) as (λ b. nat_eq k n ≡ b → test k ≡ false) [
        | true ↦ λ same. ap test (eqb-true k n same) ∙ here
        | false ↦ λ other. none_passes test n k is (below_both k n low other)
      ] refl
    ] refl e

abbrev number_or : ℕ → Option ℕ → ℕ
number_or n None = n
number_or n (Some k) = k

-- a relation of numbers to those below n, of which each has one partner at most, on both sides
pub record IsOneToOne (R : ℕ → ℕ → Bool) (n : ℕ) : Type 0 where
  pub below : (i j : ℕ) → R i j ≡ true → j < n
  pub right : (i j k : ℕ) → R i j ≡ true → R i k ≡ true → j ≡ k
  pub left : (i j k : ℕ) → R i k ≡ true → R j k ≡ true → i ≡ j

module _ (R : ℕ → ℕ → Bool) (n : ℕ) where
  -- the partner's number, or a new one, which is even or odd as this is
  abbrev pub number : ℕ → ℕ → ℕ
  number odd i = number_or (n + 2 * i + odd) (sought (R i) n)

  -- a number has no partner, and gets a new one
  record IsNew (odd i : ℕ) : Type 0 where
    alone : (j : ℕ) → j < n → R i j ≡ false
    is : number odd i ≡ n + 2 * i + odd

  either : (odd i : ℕ) → (R i (number odd i) ≡ true) ⊎ IsNew odd i
  either odd i =
      elim (sought (R i) n) as (λ (o : Option ℕ). sought (R i) n ≡ o →
      (R i (number odd i) ≡ true) ⊎ IsNew odd i) [
        | None ↦ λ e. inr (record {
          alone = λ j low. none_passes (R i) n j e low;
          is = ap (number_or (n + 2 * i + odd)) e;
        })
        | Some k ↦ λ e. inl (ap (λ (o : Option ℕ). R i (number_or (n + 2 * i + odd) o)) e ∙ passes (R i) n k e)
      ] refl

  module _ (one : IsOneToOne R n) where
    pub number-partner : (odd i j : ℕ) → R i j ≡ true → number odd i ≡ j
    number-partner odd i j e =
        elim (either odd i) [
          | inl is ↦ one.right i (number odd i) j is e
          | inr new ↦ absurd (false≢true (sym (new.alone j (one.below i j e)) ∙ e))
        ]

    equal : (odd i j : ℕ) → number odd i ≡ number odd j → i ≡ j
    equal odd i j e =
        elim (either odd i) [
          | inl is ↦ elim (either odd j) [
            | inl other ↦ one.left i j (number odd j) (ap (R i) (sym e) ∙ is) other
            | inr new ↦ let low = one.below i (number odd i) is in
                let high : number odd j ≡ n + 2 * j + odd = new.is in absurd (omega (arith, e, low, high))
          ]
          | inr new ↦ let high : number odd i ≡ n + 2 * i + odd = new.is in
              elim (either odd j) [
                | inl other ↦ let low = one.below j (number odd j) other in absurd (omega (arith, e, low, high))
                | inr more ↦ let more_high : number odd j ≡ n + 2 * j + odd = more.is in
                    omega (arith, e, high, more_high)
              ]
        ]

    pub numbers-differ : (odd i j : ℕ) → nat_eq (number odd i) (number odd j) ≡ nat_eq i j
    numbers-differ odd i j =
        same_truth (nat_eq (number odd i) (number odd j)) (nat_eq i j)
        (λ e. eq-eqb i j (equal odd i j (eqb-true (number odd i) (number odd j) e)))
        (λ e. eq-eqb (number odd i) (number odd j) (ap (number odd) (eqb-true i j e)))

    -- an even number and an odd one are the same only where it is a partner's
    pub number-tied : (i j : ℕ) → number 0 i ≡ number 1 j → R i (number 0 i) ≡ true
    number-tied i j e =
        elim (either 0 i) [
          | inl is ↦ is
          | inr new ↦ let high : number 0 i ≡ n + 2 * i + 0 = new.is in
              elim (either 1 j) [
                | inl other ↦ let low = one.below j (number 1 j) other in absurd (omega (arith, e, low, high))
                | inr more ↦ let more_high : number 1 j ≡ n + 2 * j + 1 = more.is in
                    absurd (omega (arith, e, high, more_high))
              ]
        ]

-- ---- of two programs

abbrev class_of : ℕ → ClassId
class_of n = record { 0 = n }

abbrev field_of : ℕ → FieldId
field_of n = record { 0 = n }

module _ (p q : Core) where
  abbrev classes_tied : ℕ → ℕ → Bool
  classes_tied i j = ties_classes p q (class_of i) (class_of j)

  abbrev fields_tied : ℕ → ℕ → Bool
  fields_tied i j = ties_fields p q (field_of i) (field_of j)

  module _ (one : AreOneToOne p q) where
    pub one_class : IsOneToOne classes_tied (length q.classes)
    one_class =
        record {
          below = λ i j e. class_there p q (class_of i) (class_of j) e;
          right = λ i j k e h. ap (λ (c : ClassId). c.0) (one.classes (class_of i) (class_of j) (class_of k) e h);
          left = λ i j k e h. ap (λ (c : ClassId). c.0) (one.olds (class_of i) (class_of j) (class_of k) e h);
        }

    pub one_field : IsOneToOne fields_tied (length q.fields)
    one_field =
        record {
          below = λ i j e. field_there p q (field_of i) (field_of j) e;
          right = λ i j k e h. ap (λ (f : FieldId). f.0) (one.fields (field_of i) (field_of j) (field_of k) e h);
          left = λ i j k e h. ap (λ (f : FieldId). f.0) (one.old_fields (field_of i) (field_of j) (field_of k) e h);
        }

    -- each class and each field by its partner; those without one by even numbers, or by odd ones
    abbrev pub partners : ℕ → Renumbering
    partners odd =
        record {
          class = λ c. class_of (number classes_tied (length q.classes) odd c.0);
          field = λ f. field_of (number fields_tied (length q.fields) odd f.0);
          same_classes = λ c d. numbers-differ classes_tied (length q.classes) one_class odd c.0 d.0;
          same_fields = λ f g. numbers-differ fields_tied (length q.fields) one_field odd f.0 g.0;
        }

    pub class-partner : (odd : ℕ) (c d : ClassId) → ties_classes p q c d ≡ true → (partners odd).class c ≡ d
    class-partner odd c d e =
        ap class_of (number-partner classes_tied (length q.classes) one_class odd c.0 d.0 e)

    pub field-partner : (odd : ℕ) (f g : FieldId) → ties_fields p q f g ≡ true → (partners odd).field f ≡ g
    field-partner odd f g e = ap field_of (number-partner fields_tied (length q.fields) one_field odd f.0 g.0 e)

    pub class-tied : (c d : ClassId) → (partners 0).class c ≡ (partners 1).class d →
        ties_classes p q c ((partners 0).class c) ≡ true
    class-tied c d e =
        number-tied classes_tied (length q.classes) one_class c.0 d.0 (ap (λ (x : ClassId). x.0) e)

    pub field-tied : (f g : FieldId) → (partners 0).field f ≡ (partners 1).field g →
        ties_fields p q f ((partners 0).field f) ≡ true
    field-tied f g e = number-tied fields_tied (length q.fields) one_field f.0 g.0 (ap (λ (x : FieldId). x.0) e)
