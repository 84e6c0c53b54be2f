-- Members of lists that are left out of or kept, and tests of them.
use Rattle.std.proofs.Common.{◌≡◌, ℕ, zero, suc, ◌+◌, ◌<◌, ◌≤◌, ◌⊎◌, inl, inr, Bool, true, false, cond, ◌||◌, not}
use Rattle.std.proofs.Common.{List, [], ◌∷◌, Some, filter, map, nat_eq, slice_get, refl, sym, ap, subst, ◌∙◌, arith}
use Rattle.std.proofs.lemmas.Bool.{and_parts, cases_eq}
use Rattle.std.specs.List.{Contains, list_all, list_any, range_with_len}
use Rattle.racer_base.specs.declared.ids.MethodId.{MethodId}
use Rattle.core_code.specs.CalleeRows.{different}
use Rattle.core_code.specs.Names.{all_differ}
use Rattle.core_code.proofs.Members.{at_place, each, in_tail}
use Rattle.core_code.proofs.RowCallees.{nat_eq-same}

pub first_or_rest : {X : Type 0} (x : X) (xs : List X) (y : X) → Contains (x ∷ xs) y → (x ≡ y) ⊎ Contains xs y
first_or_rest x xs y (zero, within, is) = inl is
first_or_rest x xs y (suc k, within, is) = inr (k, omega (arith, within), is)

pub in_filter : {X : Type 0} (test : X → Bool) (xs : List X) (y : X) → Contains xs y → test y ≡ true →
    Contains (filter test xs) y
in_filter test [] y there h = absurd (let within : there.0 < 0 = there.1 in omega arith)
in_filter {X} test (x ∷ xs) y (zero, within, is) h =
    let passes : test x ≡ true = ap test is ∙ h in
    subst (λ (b : Bool). Contains (cond b (x ∷ filter test xs) (filter test xs)) y) (sym passes) (0, omega arith, is)
in_filter {X} test (x ∷ xs) y (suc k, within, is) h =
    let rest : Contains (filter test xs) y = in_filter test xs y (k, omega (arith, within), is) h in
    elim (test x) as (λ b. Contains (cond b (x ∷ filter test xs) (filter test xs)) y) [
      | true ↦ in_tail x (filter test xs) y rest
      | false ↦ rest
    ]

pub of_filter : {X : Type 0} (test : X → Bool) (xs : List X) (y : X) → Contains (filter test xs) y → test y ≡ true
of_filter test [] y there = absurd (let within : there.0 < 0 = there.1 in omega arith)
of_filter {X} test (x ∷ xs) y there =
    elim (test x) as (λ b. test x ≡ b → Contains (cond b (x ∷ filter test xs) (filter test xs)) y → test y ≡ true) [
      | true ↦ λ e h.
          elim (first_or_rest x (filter test xs) y h) [
            | inl is ↦ ap test (sym is) ∙ e
            | inr rest ↦ of_filter test xs y rest
          ]
      | false ↦ λ e h. of_filter test xs y h
    ] refl there

-- ---- lists of which no two are the same

rest_differ : {X : Type 0} (same : X → X → Bool) (test : X → Bool) (x : X) (xs : List X) →
    all_differ same (filter test (x ∷ xs)) ≡ true → all_differ same (filter test xs) ≡ true
rest_differ {X} same test x xs h =
    elim (test x) as (λ b. all_differ same (cond b (x ∷ filter test xs) (filter test xs)) ≡ true →
    all_differ same (filter test xs) ≡ true) [
      | true ↦ λ g. (and_parts (list_all (λ y. not (same x y)) (filter test xs)) _ g).1
      | false ↦ λ g. g
    ] h

others_differ : {X : Type 0} (same : X → X → Bool) (test : X → Bool) (x : X) (xs : List X) (j : ℕ) (b : X) →
    all_differ same (filter test (x ∷ xs)) ≡ true → test x ≡ true → slice_get xs j ≡ Some b → test b ≡ true →
    not (same x b) ≡ true
others_differ {X} same test x xs j b h passes at other =
    let whole : all_differ same (x ∷ filter test xs) ≡ true =
    subst (λ (t : Bool). all_differ same (cond t (x ∷ filter test xs) (filter test xs)) ≡ true) passes h in
    each (λ y. not (same x y)) (filter test xs) b
    (and_parts (list_all (λ y. not (same x y)) (filter test xs)) _ whole).0
    (in_filter test xs b (at_place xs j b at) other)

-- where no two of those that pass are the same, two that are stand at one place
pub one_place : {X : Type 0} (same : X → X → Bool) (test : X → Bool) (xs : List X) (i j : ℕ) (a b : X) →
    all_differ same (filter test xs) ≡ true → slice_get xs i ≡ Some a → slice_get xs j ≡ Some b → test a ≡ true →
    test b ≡ true → same a b ≡ true → same b a ≡ true → i ≡ j
one_place same test [] i j a b h at_i at_j passes_a passes_b ab ba = absurd cc
one_place same test (x ∷ xs) zero zero a b h at_i at_j passes_a passes_b ab ba = refl
one_place same test (x ∷ xs) zero (suc j) a b h at_i at_j passes_a passes_b ab ba =
    let is : x ≡ a = cc in
    let other : not (same x b) ≡ true =
    others_differ same test x xs j b h (ap test is ∙ passes_a) at_j passes_b in
    let both : not (same x b) ≡ false = ap (λ y. not (same y b)) is ∙ ap not ab in
    absurd cc
one_place same test (x ∷ xs) (suc i) zero a b h at_i at_j passes_a passes_b ab ba =
    let is : x ≡ b = cc in
    let other : not (same x a) ≡ true =
    others_differ same test x xs i a h (ap test is ∙ passes_b) at_i passes_a in
    let both : not (same x a) ≡ false = ap (λ y. not (same y a)) is ∙ ap not ba in
    absurd cc
one_place same test (x ∷ xs) (suc i) (suc j) a b h at_i at_j passes_a passes_b ab ba =
    ap (λ (n : ℕ). suc n) (one_place same test xs i j a b (rest_differ same test x xs h) at_i at_j passes_a passes_b ab ba)

-- ---- what numbers give

pub in_range : {X : Type 0} (f : ℕ → X) (first count k : ℕ) → first ≤ k → k < first + count →
    Contains (map f (range_with_len first count)) (f k)
in_range f first zero k low high = absurd (omega arith)
in_range f first (suc count) k low high =
    elim (cases_eq first k) [
      | inl e ↦ (0, omega arith, ap f e)
      | inr e ↦
          in_tail (f first) (map f (range_with_len (first + 1) count)) (f k)
          (in_range f (first + 1) count k (omega arith) (omega arith))
    ]

-- ---- the different ones of a list

abbrev differs : MethodId → MethodId → Bool
differs m n = not (nat_eq m.0 n.0)

or_same : (a b : Bool) → (a || b) ≡ (a || (a || b))
or_same true b = refl
or_same false b = refl

any_left : (test : MethodId → Bool) (m : MethodId) (xs : List MethodId) →
    (test m || list_any test (filter (differs m) xs)) ≡ (test m || list_any test xs)
any_left test m [] = refl
any_left test m (x ∷ xs) =
    elim (nat_eq m.0 x.0) as (λ b. nat_eq m.0 x.0 ≡ b →
    (test m || list_any test (cond (not b) (x ∷ filter (differs m) xs) (filter (differs m) xs))) ≡
    (test m || (test x || list_any test xs))) [
      | true ↦ λ e.
          any_left test m xs
          ∙ or_same (test m) (list_any test xs)
          ∙ ap (λ (n : MethodId). test m || (test n || list_any test xs)) (nat_eq-same m x e)
      | false ↦ λ e.
          elim (test x) as (λ t. (test m || (t || list_any test (filter (differs m) xs))) ≡
          (test m || (t || list_any test xs))) [
            | true ↦ refl
            | false ↦ any_left test m xs
          ]
    ] refl

pub any_different : (test : MethodId → Bool) (ms : List MethodId) → list_any test (different ms) ≡ list_any test ms
any_different test [] = refl
any_different test (m ∷ ms) =
    any_left test m (different ms) ∙ ap (λ (b : Bool). test m || b) (any_different test ms)
