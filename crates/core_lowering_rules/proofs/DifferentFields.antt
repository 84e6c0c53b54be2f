-- The fields of a program differ where those of the folder do, with what containers hold among them.
use Rattle.std.proofs.Common.{◌≡◌, ℕ, Bool, true, false, cond, not, ◌&&◌, List, [], ◌∷◌, ◌++◌, map, filter, refl}
use Rattle.std.proofs.Common.{sym, ap, ◌∙◌, subst, codes, nat_eq}
use Rattle.std.specs.List.{list_all}
use Rattle.std.proofs.Math.Bool.{and-false}
use Rattle.std.proofs.lemmas.Bool.{and_from, and_parts}
use Rattle.std.proofs.lemmas.List.{append_cancel_right}
use Rattle.std.proofs.lemmas.List.Folds.{list_all-append, list_all-map}
use Rattle.container_cells.specs.declared.cell.Containers.{Containers}
use Rattle.container_cells.specs.declared.cell.Containers.TheVariants.{Opaque, WithCells}
use Rattle.racer_base.proofs.Tests.{bytes_same}
use Rattle.java_resolver.specs.declared.infos.FieldInfo.{FieldInfo}
use Rattle.core_code.specs.Names.{all_differ, content_name, is_identifier, same_field, same_text}
use Rattle.core_code.proofs.FieldNames.{content-differs}
use Rattle.core_lowering_rules.specs.Cells.{content_core, contents, is_container}
use Rattle.core_lowering_rules.specs.Programs.{field_core, field_cores}
use Rattle.core_lowering_rules.proofs.FoundElements.{Each}
use Rattle.core_lowering_rules.proofs.ContentFields.{contents-pass}
use Rattle.core_lowering_rules.proofs.Texts.{bytes_is}

-- ---- lists without repetitions

pub all_differ-map : {A B : Type 0} (same : B → B → Bool) (f : A → B) (xs : List A) →
    all_differ same (map f xs) ≡ all_differ (λ x y. same (f x) (f y)) xs
all_differ-map same f [] = refl
all_differ-map same f (x ∷ xs) =
    ap (λ b. b && all_differ same (map f xs)) (list_all-map (λ y. not (same (f x) y)) f xs)
    ∙ ap (λ b. list_all (λ y. not (same (f x) (f y))) xs && b) (all_differ-map same f xs)

all_differ-append : {A : Type 0} (same : A → A → Bool) (xs ys : List A) → all_differ same xs ≡ true →
    all_differ same ys ≡ true → Each (λ x. list_all (λ y. not (same x y)) ys ≡ true) xs →
    all_differ same (xs ++ ys) ≡ true
all_differ-append same [] ys h k apart = k
all_differ-append same (x ∷ xs) ys h k apart =
    let parts = and_parts (list_all (λ y. not (same x y)) xs) _ h in
    and_from (list_all (λ y. not (same x y)) (xs ++ ys)) _
    (list_all-append (λ y. not (same x y)) xs ys ∙ and_from (list_all (λ y. not (same x y)) xs) _ parts.0 apart.0)
    (all_differ-append same xs ys parts.1 k apart.1)

module _ {A : Type 0} (test : A → Bool) where
  kept-by : (p q : A → Bool) → ((y : A) → p y ≡ true → q y ≡ true) → (x : A) (rest : List A) (b : Bool) →
      p x ≡ true → list_all q rest ≡ true → list_all q (cond b (x ∷ rest) rest) ≡ true
  kept-by p q more x rest true h k = and_from (q x) _ (more x h) k
  kept-by p q more x rest false h k = k

  all-kept : (p q : A → Bool) → ((y : A) → p y ≡ true → q y ≡ true) → (xs : List A) → list_all p xs ≡ true →
      list_all q (filter test xs) ≡ true
  all-kept p q more [] h = refl
  all-kept p q more (x ∷ xs) h =
      let parts = and_parts (p x) (list_all p xs) h in
      kept-by p q more x (filter test xs) (test x) parts.0 (all-kept p q more xs parts.1)

  not-also : (a b : Bool) → (a ≡ true → b ≡ true) → not b ≡ true → not a ≡ true
  not-also true b more h = ap not (sym (more refl)) ∙ h
  not-also false b more h = refl

  -- those that are kept differ in more, where what is the same in this was the same before
  module _ (same less : A → A → Bool) (more : (x y : A) → less x y ≡ true → same x y ≡ true) where
    differ-by : (x : A) (rest : List A) (b : Bool) → list_all (λ y. not (less x y)) rest ≡ true →
        all_differ less rest ≡ true → all_differ less (cond b (x ∷ rest) rest) ≡ true
    differ-by x rest true h k = and_from (list_all (λ y. not (less x y)) rest) _ h k
    differ-by x rest false h k = k

    kept-differ : (xs : List A) → all_differ same xs ≡ true → all_differ less (filter test xs) ≡ true
    kept-differ [] h = refl
    kept-differ (x ∷ xs) h =
        let parts = and_parts (list_all (λ y. not (same x y)) xs) (all_differ same xs) h in
        differ-by x (filter test xs) (test x)
        (all-kept (λ y. not (same x y)) (λ y. not (less x y))
        (λ y. not-also (less x y) (same x y) (more x y)) xs parts.0)
        (kept-differ xs parts.1)

-- ---- fields

abbrev pub IsNamed : FieldInfo → Type 0
IsNamed f = is_identifier f.name ≡ true

abbrev same_known : FieldInfo → FieldInfo → Bool
same_known f g = same_field (field_core f) (field_core g)

abbrev same_content : FieldInfo → FieldInfo → Bool
same_content f g = same_field (content_core f) (content_core g)

content-tells : (f g : FieldInfo) → same_content f g ≡ true → same_known f g ≡ true
content-tells f g h =
    let parts = and_parts (nat_eq f.class.0 g.class.0) _ h in
    let name : f.name ≡ g.name =
    append_cancel_right f.name g.name (codes "[]")
    (bytes_is (content_name f.name) (content_name g.name) parts.1) in
    and_from (nat_eq f.class.0 g.class.0) _ parts.0
    (subst (λ (text : List ℕ). same_text f.name text ≡ true) name (bytes_same f.name))

contents-differ : (containers : Containers) (fs : List FieldInfo) → all_differ same_known fs ≡ true →
    all_differ same_field (contents containers fs) ≡ true
contents-differ Opaque fs h = refl
contents-differ WithCells fs h =
    all_differ-map same_field content_core (filter is_container fs)
    ∙ kept-differ is_container same_known same_content content-tells fs h

-- a field has another name than what any container holds
apart-content : (f g : FieldInfo) → IsNamed f → not (same_field (field_core f) (content_core g)) ≡ true
apart-content f g named =
    ap (λ b. not (nat_eq f.class.0 g.class.0 && b)) (content-differs f.name g.name named)
    ∙ ap not (and-false (nat_eq f.class.0 g.class.0))

apart-contents : (containers : Containers) (held : List FieldInfo) → Each IsNamed held → (fs : List FieldInfo) →
    Each IsNamed fs →
    Each (λ x. list_all (λ y. not (same_field x y)) (contents containers held) ≡ true) (map field_core fs)
apart-contents containers held all [] named = tt
apart-contents containers held all (f ∷ fs) named = (
  contents-pass (λ y. not (same_field (field_core f) y)) IsNamed (λ g other. apart-content f g named.0) containers held
      all,
  apart-contents containers held all fs named.1,
)

pub fields-apart : (containers : Containers) (fs : List FieldInfo) → Each IsNamed fs →
    all_differ (λ f g. same_field (field_core f) (field_core g)) fs ≡ true →
    all_differ same_field (field_cores containers fs) ≡ true
fields-apart containers fs named h =
    all_differ-append same_field (map field_core fs) (contents containers fs)
    (all_differ-map same_field field_core fs ∙ h) (contents-differ containers fs h)
    (apart-contents containers fs named fs named)
