-- What can be decided.
use Rattle.std.proofs.Common.{◌≡◌, ℕ, Bool, true, false, ◌⊎◌, inl, inr, ⊎_elim, List, [], ◌∷◌, ◌++◌, refl, ap}
use Rattle.std.proofs.Common.{subst}
use Rattle.std.specs.Prelude.{bytes_eq}
use Rattle.std.specs.Cmp.Lexicographic.{bytes_decides}

abbrev pub Decided : Type 0 → Type 0
Decided A = A ⊎ (A → ⊥)

pub decided-as : {A B : Type 0} → (A → B) → (B → A) → Decided A → Decided B
decided-as f g (inl a) = inl (f a)
decided-as f g (inr none) = inr (λ b. none (g b))

pub decided-both : {A B : Type 0} → Decided A → Decided B → Decided (A × B)
decided-both (inl a) (inl b) = inl (a, b)
decided-both (inl a) (inr none) = inr (λ c. none c.1)
decided-both (inr none) b = inr (λ c. none c.0)

pub decided-either : {A B : Type 0} → Decided A → Decided B → Decided (A ⊎ B)
decided-either (inl a) b = inl (inl a)
decided-either (inr none) (inl b) = inl (inr b)
decided-either (inr none) (inr no_other) = inr (λ c. ⊎_elim none no_other c)

pub decided-true : (b : Bool) → Decided (b ≡ true)
decided-true true = inl refl
decided-true false = inr (λ e. cc)

pub decided-bytes : (a b : List ℕ) → Decided (a ≡ b)
decided-bytes a b =
    decided-as (λ e. (bytes_decides a b).0 e) (λ e. (bytes_decides a b).1 e) (decided-true (bytes_eq a b))

-- a list in two parts
pub record Split {X : Type 0} (P : List X → List X → Type 0) (xs : List X) : Type 0 where
  pub front : List X
  pub back : List X
  pub parts : front ++ back ≡ xs
  pub is : P front back

abbrev split_at : {X : Type 0} {P : List X → List X → Type 0} (a b : List X) → P a b → Split P (a ++ b)
split_at a b p = record { front = a; back = b; parts = refl; is = p }

module _ {X : Type 0} (P : List X → List X → Type 0) where
  no-front : (xs : List X) → P [] xs → Split P xs
  no-front xs p = record { front = []; back = xs; parts = refl; is = p }

  of-nothing : (a b : List X) → a ++ b ≡ [] → P a b → P [] []
  of-nothing [] b e p = subst (λ c. P [] c) e p
  of-nothing (x ∷ a) b e p = absurd cc

  abbrev Later : (x : X) → List X → Type 0
  Later x xs = Split (λ a b. P (x ∷ a) b) xs

  with-front : (x : X) (xs : List X) → Later x xs → Split P (x ∷ xs)
  with-front x xs s =
      record { front = x ∷ s.front; back = s.back; parts = ap (λ (l : List X). x ∷ l) s.parts; is = s.is }

  first-or : (x : X) (xs a b : List X) → a ++ b ≡ x ∷ xs → P a b → P [] (x ∷ xs) ⊎ Later x xs
  first-or x xs [] b e p = inl (subst (λ c. P [] c) e p)
  first-or x xs (y ∷ a) b e p =
      let same : y ≡ x = cc in
      let others : a ++ b ≡ xs = cc in
      inr (record { front = a; back = b; parts = others; is = subst (λ z. P (z ∷ a) b) same p })

-- whether a list has two parts of which P holds, where that can be decided of each two parts
pub decided-split : {X : Type 0} (P : List X → List X → Type 0) (xs : List X)
    → ((a b : List X) → a ++ b ≡ xs → Decided (P a b)) → Decided (Split P xs)
decided-split P [] d =
    decided-as (no-front P []) (λ s. of-nothing P s.front s.back s.parts s.is) (d [] [] refl)
decided-split {X} P (x ∷ xs) d =
    decided-as (λ c. ⊎_elim (no-front P (x ∷ xs)) (with-front P x xs) c)
    (λ s. first-or P x xs s.front s.back s.parts s.is)
    (decided-either (d [] (x ∷ xs) refl)
    (decided-split (λ a b. P (x ∷ a) b) xs (λ a b e. d (x ∷ a) b (ap (λ (l : List X). x ∷ l) e))))
