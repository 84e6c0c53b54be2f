-- A contract of a public call rests on this: the laws of `==` at paths, which are the same exactly where they are
-- equal, and exactly where the order ties them.
use Rattle.std.proofs.Common.{◌≡◌, ℕ, true, ◌&&◌, List, [], ◌∷◌, ◌++◌, map, nat_eq, refl, sym, ap, ◌∙◌}
use Rattle.std.specs.Ordering.{eq_by_cmp}
use Rattle.std.specs.Cmp.{IsTotalOrder, IsPartialEquivalence, IsEquivalence, IsPartialOrder}
use Rattle.std.specs.Cmp.{equiv, partial_order_from_agreeing_total}
use Rattle.std.specs.Ordering.{as_partial_cmp}
use Rattle.std.specs.Cmp.Lexicographic.{pointwise, same_text, texts_ties, nat_list_cmp_total, nat_list_eq_equiv}
use Rattle.std.specs.Cmp.Derive.Mapped.{pointwise-map}
use Rattle.std.specs.FinMap.{IsAntisymmetric, nat_cmp-IsAntisymmetric, slice_cmp-IsAntisymmetric}
use Rattle.racer_base.specs.declared.ids.FieldId.{FieldId}
use Rattle.access_paths.specs.declared.path.Root.{Root}
use Rattle.access_paths.specs.declared.path.Root.TheVariants.{This, Class, Formal, Some as SomeOf}
use Rattle.access_paths.specs.declared.path.Path.{Path}
use Rattle.access_paths.specs.Paths.{same_root, same_fields, same_path}
use Rattle.access_paths.specs.Order.{root_key, path_key, path_cmp}

abbrev number : FieldId → ℕ
number f = f.0

fields_of_numbers : (fs gs : List FieldId) → map number fs ≡ map number gs → fs ≡ gs
fields_of_numbers [] [] e = refl
fields_of_numbers [] (g ∷ gs) e = cc
fields_of_numbers (f ∷ fs) [] e = cc
fields_of_numbers (f ∷ fs) (g ∷ gs) e =
    let heads : f.0 ≡ g.0 = cc in
    let tails : map number fs ≡ map number gs = cc in
    let same : f ≡ g = ap (λ (n : ℕ). let made : FieldId = record { 0 = n } in made) heads in
    let rest : fs ≡ gs = fields_of_numbers fs gs tails in
    cc

abbrev made : Root → List FieldId → Path
made root fields = record { root = root; fields = fields }

numbers_tell : (r s : Root) (fs gs : List FieldId) → root_key r ++ map number fs ≡ root_key s ++ map number gs →
    made r fs ≡ made s gs
numbers_tell This This fs gs e = ap (made This) (fields_of_numbers fs gs cc)
numbers_tell (Class c) (Class d) fs gs e =
    let heads : c.0 ≡ d.0 = cc in
    let tails : map number fs ≡ map number gs = cc in
    (λ i. made (Class (record { 0 = heads i })) (fields_of_numbers fs gs tails i))
numbers_tell (Formal c) (Formal d) fs gs e =
    let heads : c ≡ d = cc in
    let tails : map number fs ≡ map number gs = cc in
    (λ i. made (Formal (heads i)) (fields_of_numbers fs gs tails i))
numbers_tell (SomeOf c) (SomeOf d) fs gs e =
    let heads : c.0 ≡ d.0 = cc in
    let tails : map number fs ≡ map number gs = cc in
    (λ i. made (SomeOf (record { 0 = heads i })) (fields_of_numbers fs gs tails i))
numbers_tell _ _ fs gs e = cc

pub path_of_key : (p q : Path) → path_key p ≡ path_key q → p ≡ q
path_of_key p q e = numbers_tell p.root q.root p.fields q.fields e

same_by_parts : (r s : Root) (fs gs : List FieldId) →
    (same_root r s && same_fields fs gs) ≡ pointwise nat_eq (root_key r ++ map number fs) (root_key s ++ map number gs)
same_by_parts This This fs gs = sym (pointwise-map number nat_eq fs gs)
same_by_parts (Class c) (Class d) fs gs = ap (λ b. nat_eq c.0 d.0 && b) (sym (pointwise-map number nat_eq fs gs))
same_by_parts (Formal c) (Formal d) fs gs = ap (λ b. nat_eq c d && b) (sym (pointwise-map number nat_eq fs gs))
same_by_parts (SomeOf c) (SomeOf d) fs gs = ap (λ b. nat_eq c.0 d.0 && b) (sym (pointwise-map number nat_eq fs gs))
same_by_parts _ _ fs gs = refl

pub same_path-key : (p q : Path) → same_path p q ≡ pointwise nat_eq (path_key p) (path_key q)
same_path-key p q = same_by_parts p.root q.root p.fields q.fields

-- the order ties the same paths
pub tied : (p q : Path) → eq_by_cmp path_cmp p q ≡ same_path p q
tied p q = sym (texts_ties (path_key p) (path_key q)) ∙ sym (same_path-key p q)

pub path_cmp-total : IsTotalOrder path_cmp
path_cmp-total =
    record {
      antisymm = λ p q. nat_list_cmp_total.antisymm (path_key p) (path_key q);
      trans = λ p q r. nat_list_cmp_total.trans (path_key p) (path_key q) (path_key r);
      congr = λ p q r. nat_list_cmp_total.congr (path_key p) (path_key q) (path_key r);
    }

pub path_cmp-IsAntisymmetric : IsAntisymmetric path_cmp
path_cmp-IsAntisymmetric p q e = path_of_key p q
    (slice_cmp-IsAntisymmetric nat_cmp-IsAntisymmetric (path_key p) (path_key q) e)

-- what is the same is equal
pub equal_of_same : (p q : Path) → same_path p q ≡ true → p ≡ q
equal_of_same p q e = path_of_key p q (same_text (path_key p) (path_key q) (sym e ∙ same_path-key p q))

pub same_path-itself : (p : Path) → same_path p p ≡ true
same_path-itself p = same_path-key p p ∙ nat_list_eq_equiv.refl (path_key p)

pub same_of_equal : (p q : Path) → p ≡ q → same_path p q ≡ true
same_of_equal p q e = ap (λ r. same_path p r) (sym e) ∙ same_path-itself p

-- the laws of `==` at paths
pub same_path-laws : IsPartialEquivalence same_path
same_path-laws =
    record {
      symm = λ p q. same_path-key p q ∙ nat_list_eq_equiv.symm (path_key p) (path_key q) ∙ sym (same_path-key q p);
      trans = λ p q r pq qr. same_of_equal p r (equal_of_same p q pq ∙ equal_of_same q r qr);
    }

pub same_path-equivalence : IsEquivalence same_path
same_path-equivalence = equiv same_path-laws same_path-itself

pub path_cmp-partial : IsPartialOrder same_path (as_partial_cmp path_cmp)
path_cmp-partial =
    partial_order_from_agreeing_total path_cmp path_cmp-total (λ p q. refl) (λ p q. sym (tied p q))
