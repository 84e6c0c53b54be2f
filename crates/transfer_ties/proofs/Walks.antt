-- Two lists that are gone through side by side.
use Rattle.std.proofs.Common.{◌≡◌, ℕ, suc, ◌+◌, ◌<◌, ◌≤◌, Bool, true, false, ◌&&◌, List, [], ◌∷◌, ◌++◌, drop, get_or}
use Rattle.std.proofs.Common.{length, refl, sym, ap, subst, ◌∙◌, arith, length-append}
use Rattle.std.specs.Prelude.{min}
use Rattle.std.specs.Cmp.Lexicographic.{pointwise}
use Rattle.std.proofs.lemmas.List.{at_drop_more, at_drop_all}

pub pointwise_same : {A B : Type 0} (some others : A → B → Bool) → ((x : A) (y : B) → some x y ≡ others x y) →
    (xs : List A) (ys : List B) → pointwise some xs ys ≡ pointwise others xs ys
pointwise_same some others same [] [] = refl
pointwise_same some others same [] (y ∷ ys) = refl
pointwise_same some others same (x ∷ xs) [] = refl
pointwise_same some others same (x ∷ xs) (y ∷ ys) = λ i. same x y i && pointwise_same some others same xs ys i

-- these stand at a place of two lists
abbrev pub IsTurn : {A B : Type 0} → List A → List B → ℕ → A → B → Type 0
IsTurn {A} {B} xs ys i x y =
    (i < length xs) × (i < length ys) × ((d : A) → x ≡ get_or xs i d) × ((d : B) → y ≡ get_or ys i d)

module _ {A B : Type 0} (same : A → B → Bool) where
  no_pair : (b : Bool) → (b && false) ≡ false
  no_pair true = refl
  no_pair false = refl

  pub pointwise_lengths : (xs : List A) (ys : List B) → (length xs ≡ length ys → ⊥) → false ≡ pointwise same xs ys
  pointwise_lengths [] [] differ = absurd (differ refl)
  pointwise_lengths [] (y ∷ ys) differ = refl
  pointwise_lengths (x ∷ xs) [] differ = refl
  pointwise_lengths (x ∷ xs) (y ∷ ys) differ =
      sym (ap (λ b. same x y && b) (sym (pointwise_lengths xs ys (λ e. differ (ap suc e)))) ∙ no_pair (same x y))

  module _ (xs : List A) (ys : List B) (whole : Bool) where
    abbrev pub IsLeft : ℕ → Type 0
    IsLeft i = pointwise same (drop i xs) (drop i ys) ≡ whole

    turned : (i : ℕ) (x : A) (y : B) → IsTurn xs ys i x y →
        pointwise same (drop i xs) (drop i ys) ≡ (same x y && pointwise same (drop (i + 1) xs) (drop (i + 1) ys))
    turned i x y at =
        at_drop_more (λ (left : List A). pointwise same left (drop i ys)) xs i x at.0
        ∙ at_drop_more (λ (left : List B). pointwise same (get_or xs i x ∷ drop (i + 1) xs) left) ys i y at.1
        ∙ (λ k. same (sym (at.2 x) k) (sym (at.3 y) k) && pointwise same (drop (i + 1) xs) (drop (i + 1) ys))

    pub walk_stops : (i : ℕ) (x : A) (y : B) → IsTurn xs ys i x y → same x y ≡ false → IsLeft i → false ≡ whole
    walk_stops i x y at other left =
        sym (turned i x y at ∙ ap (λ b. b && pointwise same (drop (i + 1) xs) (drop (i + 1) ys)) other) ∙ left

    walk_next : (i : ℕ) (x : A) (y : B) → IsTurn xs ys i x y → same x y ≡ true → IsLeft i → IsLeft (i + 1)
    walk_next i x y at is left =
        sym (turned i x y at ∙ ap (λ b. b && pointwise same (drop (i + 1) xs) (drop (i + 1) ys)) is) ∙ left

    pub walk_goes : {P : Type 0} (seen : List P) (p : P) (x : A) (y : B) → IsTurn xs ys (length seen) x y →
        same x y ≡ true → IsLeft (length seen) → IsLeft (length (seen ++ p ∷ []))
    walk_goes seen p x y at is left =
        subst IsLeft (sym (length-append seen (p ∷ []))) (walk_next (length seen) x y at is left)

    pub walk_ends : (i : ℕ) → length xs ≡ length ys → i ≡ min (length xs) (length ys) → IsLeft i → true ≡ whole
    walk_ends i long end left =
        let past : length xs ≤ i = omega arith in
        let past_other : length ys ≤ i = omega arith in
        sym (at_drop_all (λ (rest : List A). pointwise same rest (drop i ys)) xs i past
        ∙ at_drop_all (λ (rest : List B). pointwise same [] rest) ys i past_other)
        ∙ left
