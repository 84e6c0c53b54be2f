-- A contract of a public call rests on this: the laws of `==` at objects, which are the same exactly where they are
-- equal, and exactly where the order ties them.
use Rattle.std.proofs.Common.{◌≡◌, ℕ, Bool, true, false, ◌&&◌, List, [], ◌∷◌, length, map, nat_eq, refl, sym, ap, ◌∙◌}
use Rattle.std.proofs.lemmas.Bool.{eq-eqb}
use Rattle.std.proofs.lemmas.List.{length-map}
use Rattle.std.specs.Ordering.{eq_by_cmp}
use Rattle.std.specs.Cmp.{IsTotalOrder, IsPartialEquivalence, IsEquivalence, IsPartialOrder}
use Rattle.std.specs.Cmp.{equiv, partial_order_from_agreeing_total}
use Rattle.std.specs.Ordering.{as_partial_cmp}
use Rattle.std.specs.Cmp.Lexicographic.{pointwise, same_text, texts_ties, nat_list_cmp_total, nat_list_eq_equiv}
use Rattle.std.specs.Cmp.Derive.Mapped.{pointwise-map}
use Rattle.racer_base.specs.declared.ids.FieldId.{FieldId}
use Rattle.access_paths.specs.Paths.{same_fields}
use Rattle.core_semantics.specs.declared.object.StartRoot.{StartRoot}
use Rattle.core_semantics.specs.declared.object.StartRoot.TheVariants.{This, Class, Param}
use Rattle.core_semantics.specs.declared.object.Object.{Object}
use Rattle.core_semantics.specs.declared.object.Object.TheVariants.{Start, Fresh}
use Rattle.core_semantics.specs.Objects.{same_start_root, same_object}
use Rattle.core_semantics.specs.Order.{root_form, root_first, root_second, object_key, object_cmp}

abbrev number : FieldId → ℕ
number f = f.0

fields_of_numbers : (fs gs : List FieldId) → map number fs ≡ map number gs → fs ≡ gs
fields_of_numbers [] [] e = refl
fields_of_numbers [] (g ∷ gs) e = cc
fields_of_numbers (f ∷ fs) [] e = cc
fields_of_numbers (f ∷ fs) (g ∷ gs) e =
    let heads : f.0 ≡ g.0 = cc in
    let tails : map number fs ≡ map number gs = cc in
    let same : f ≡ g = ap (λ (n : ℕ). let made : FieldId = record { 0 = n } in made) heads in
    let rest : fs ≡ gs = fields_of_numbers fs gs tails in
    cc

abbrev made : StartRoot → List FieldId → Object
made root fields = Start (record { root = root; fields = fields })

abbrev key_of : StartRoot → List FieldId → List ℕ
key_of r fs = root_form r ∷ root_first r ∷ root_second r ∷ length fs ∷ map number fs

paths_of_keys : (r s : StartRoot) (fs gs : List FieldId) → key_of r fs ≡ key_of s gs → made r fs ≡ made s gs
paths_of_keys This This fs gs e = ap (made This) (fields_of_numbers fs gs cc)
paths_of_keys (Class c) (Class d) fs gs e =
    let heads : c.0 ≡ d.0 = cc in
    let tails : map number fs ≡ map number gs = cc in
    (λ i. made (Class (record { 0 = heads i })) (fields_of_numbers fs gs tails i))
paths_of_keys (Param t m) (Param u n) fs gs e =
    let threads : t ≡ u = cc in
    let numbers : m ≡ n = cc in
    let tails : map number fs ≡ map number gs = cc in
    (λ i. made (Param (threads i) (numbers i)) (fields_of_numbers fs gs tails i))
paths_of_keys _ _ fs gs e = cc

start_is_not_fresh : {A : Type 0} (r : StartRoot) (fs : List FieldId) (n : ℕ) (gs : List FieldId) →
    key_of r fs ≡ 3 ∷ n ∷ 0 ∷ length gs ∷ map number gs → A
start_is_not_fresh This fs n gs e = cc
start_is_not_fresh (Class c) fs n gs e = cc
start_is_not_fresh (Param t i) fs n gs e = cc

pub object_of_key : (a b : Object) → object_key a ≡ object_key b → a ≡ b
object_of_key (Start p) (Start q) e = paths_of_keys p.root q.root p.fields q.fields e
object_of_key (Fresh m) (Fresh n) e = let same : m ≡ n = cc in ap Fresh same
object_of_key (Start p) (Fresh n) e = start_is_not_fresh p.root p.fields n [] e
object_of_key (Fresh n) (Start p) e = start_is_not_fresh p.root p.fields n [] (sym e)

and_groups : (a b c : Bool) → ((a && b) && c) ≡ (a && (b && c))
and_groups true b c = refl
and_groups false b c = refl

pub and_true : (b : Bool) → b ≡ (b && true)
and_true true = refl
and_true false = refl

pub and_false : (b : Bool) → false ≡ (b && false)
and_false true = refl
and_false false = refl

-- numbers that are the same in turn are as many
with_lengths : (ms ns : List ℕ) → pointwise nat_eq ms ns ≡ (nat_eq (length ms) (length ns) && pointwise nat_eq ms ns)
with_lengths ms ns =
    elim (pointwise nat_eq ms ns) as (λ b. pointwise nat_eq ms ns ≡ b → b ≡ (nat_eq (length ms) (length ns) && b)) [
      | true ↦ λ e.
          sym (ap (λ b. b && true) (eq-eqb (length ms) (length ns)
          (ap (λ (xs : List ℕ). length xs) (same_text ms ns (sym e)))))
      | false ↦ λ e. and_false (nat_eq (length ms) (length ns))
    ] refl

-- so are fields
same_with_lengths : (fs gs : List FieldId) →
    same_fields fs gs ≡ (nat_eq (length fs) (length gs) && pointwise nat_eq (map number fs) (map number gs))
same_with_lengths fs gs =
    sym (pointwise-map number nat_eq fs gs)
    ∙ with_lengths (map number fs) (map number gs)
    ∙ (λ i. nat_eq (length-map fs number i) (length-map gs number i) && pointwise nat_eq (map number fs)
    (map number gs))

same_by_parts : (r s : StartRoot) (fs gs : List FieldId) →
    (same_start_root r s && same_fields fs gs) ≡ pointwise nat_eq (key_of r fs) (key_of s gs)
same_by_parts This This fs gs = same_with_lengths fs gs
same_by_parts (Class c) (Class d) fs gs = ap (λ b. nat_eq c.0 d.0 && b) (same_with_lengths fs gs)
same_by_parts (Param t m) (Param u n) fs gs =
    and_groups (nat_eq t u) (nat_eq m n) (same_fields fs gs)
    ∙ ap (λ b. nat_eq t u && (nat_eq m n && b)) (same_with_lengths fs gs)
same_by_parts _ _ fs gs = refl

fresh_differs : (r : StartRoot) (fs : List FieldId) (n : ℕ) →
    false ≡ pointwise nat_eq (key_of r fs) (3 ∷ n ∷ 0 ∷ 0 ∷ [])
fresh_differs This fs n = refl
fresh_differs (Class c) fs n = refl
fresh_differs (Param t i) fs n = refl

differs_from_fresh : (r : StartRoot) (fs : List FieldId) (n : ℕ) →
    false ≡ pointwise nat_eq (3 ∷ n ∷ 0 ∷ 0 ∷ []) (key_of r fs)
differs_from_fresh This fs n = refl
differs_from_fresh (Class c) fs n = refl
differs_from_fresh (Param t i) fs n = refl

pub same_object-key : (a b : Object) → same_object a b ≡ pointwise nat_eq (object_key a) (object_key b)
same_object-key (Start p) (Start q) = same_by_parts p.root q.root p.fields q.fields
same_object-key (Fresh m) (Fresh n) = and_true (nat_eq m n)
same_object-key (Start p) (Fresh n) = fresh_differs p.root p.fields n
same_object-key (Fresh n) (Start p) = differs_from_fresh p.root p.fields n

-- the order ties the same objects
pub tied : (a b : Object) → eq_by_cmp object_cmp a b ≡ same_object a b
tied a b = sym (texts_ties (object_key a) (object_key b)) ∙ sym (same_object-key a b)

pub object_cmp-total : IsTotalOrder object_cmp
object_cmp-total =
    record {
      antisymm = λ a b. nat_list_cmp_total.antisymm (object_key a) (object_key b);
      trans = λ a b c. nat_list_cmp_total.trans (object_key a) (object_key b) (object_key c);
      congr = λ a b c. nat_list_cmp_total.congr (object_key a) (object_key b) (object_key c);
    }

-- what is the same is equal
pub equal_of_same : (a b : Object) → same_object a b ≡ true → a ≡ b
equal_of_same a b e = object_of_key a b (same_text (object_key a) (object_key b) (sym e ∙ same_object-key a b))

pub same_object-itself : (a : Object) → same_object a a ≡ true
same_object-itself a = same_object-key a a ∙ nat_list_eq_equiv.refl (object_key a)

pub same_of_equal : (a b : Object) → a ≡ b → same_object a b ≡ true
same_of_equal a b e = ap (λ c. same_object a c) (sym e) ∙ same_object-itself a

-- the laws of `==` at objects
pub same_object-laws : IsPartialEquivalence same_object
same_object-laws =
    record {
      symm = λ a b. same_object-key a b ∙ nat_list_eq_equiv.symm (object_key a) (object_key b)
          ∙ sym (same_object-key b a);
      trans = λ a b c ab bc. same_of_equal a c (equal_of_same a b ab ∙ equal_of_same b c bc);
    }

pub same_object-equivalence : IsEquivalence same_object
same_object-equivalence = equiv same_object-laws same_object-itself

pub object_cmp-partial : IsPartialOrder same_object (as_partial_cmp object_cmp)
object_cmp-partial =
    partial_order_from_agreeing_total object_cmp object_cmp-total (λ a b. refl) (λ a b. sym (tied a b))
