-- What stands at a place of a list, and from a place on.
use Rattle.std.proofs.Common.{◌≡◌, ℕ, zero, suc, ◌+◌, ◌<◌, ◌≤◌, ◌⊎◌, inl, inr, List, [], ◌∷◌, ◌++◌, Option, Some}
use Rattle.std.proofs.Common.{length, refl, sym, ◌∙◌, subst, arith}
use Rattle.std.specs.List.{Contains}
use Rattle.std.proofs.lemmas.Option.{slice_get_within, slice_get_read, slice_get_cases, get_or_from_slice_get}
use Rattle.core_code.specs.Walks.{At, From}

pub at_within : {X : Type 0} (xs : List X) (p : ℕ) (x : X) → At xs p x → p < length xs
at_within xs p x h = slice_get_within xs p x h

pub at_some : {X : Type 0} (xs : List X) (p : ℕ) → p < length xs → (x : X) × At xs p x
at_some xs p low =
    elim ((slice_get_cases xs p).1) [
      | inl r ↦ (r.0, r.2)
      | inr r ↦ absurd (let past : length xs ≤ p = r.0 in omega arith)
    ]

some_is : {X : Type 0} (x y : X) → ◌≡◌ {A = Option X} (Some x) (Some y) → x ≡ y
some_is x y e = cc

pub at_one : {X : Type 0} (xs : List X) (p : ℕ) (x y : X) → At xs p x → At xs p y → x ≡ y
at_one xs p x y h k = some_is x y (sym h ∙ k)

pub at_left : {X : Type 0} (xs ys : List X) (p : ℕ) (x : X) → At xs p x → At (xs ++ ys) p x
at_left [] ys p x h = absurd (let low = at_within [] p x h in omega arith)
at_left (y ∷ xs) ys zero x h = h
at_left (y ∷ xs) ys (suc p) x h = at_left xs ys p x h

pub at_right : {X : Type 0} (xs ys : List X) (p q : ℕ) (x : X) → p ≡ length xs + q → At ys q x → At (xs ++ ys) p x
at_right [] ys p q x e h = subst (λ (k : ℕ). At ys k x) (let f : q ≡ p = omega arith in f) h
at_right (y ∷ xs) ys zero q x e h = absurd (omega arith)
at_right (y ∷ xs) ys (suc p) q x e h = at_right xs ys p q x (omega arith) h

pub at_split : {X : Type 0} (xs ys : List X) (p : ℕ) (x : X) → At (xs ++ ys) p x →
    At xs p x ⊎ ((q : ℕ) × (p ≡ length xs + q) × At ys q x)
at_split [] ys p x h = inr (p, omega arith, h)
at_split (y ∷ xs) ys zero x h = inl h
at_split (y ∷ xs) ys (suc p) x h =
    elim (at_split xs ys p x h) [
      | inl left ↦ inl left
      | inr right ↦ let e : p ≡ length xs + right.0 = right.1 in inr (right.0, omega arith, right.2)
    ]

pub at_only : {X : Type 0} (x : X) (q : ℕ) (y : X) → At (x ∷ []) q y → (q ≡ 0) × (y ≡ x)
at_only x zero y h = (refl, sym (some_is x y h))
at_only x (suc q) y h = absurd (let low = at_within (x ∷ []) (suc q) y h in omega arith)

-- with one more at the end
pub at_more : {X : Type 0} (xs : List X) (x : X) (p : ℕ) (y : X) → At (xs ++ x ∷ []) p y →
    At xs p y ⊎ ((p ≡ length xs) × (y ≡ x))
at_more xs x p y h =
    elim (at_split xs (x ∷ []) p y h) [
      | inl left ↦ inl left
      | inr right ↦
          let e : p ≡ length xs + right.0 = right.1 in
          let only = at_only x right.0 y right.2 in
          let none : right.0 ≡ 0 = only.0 in
          inr (omega arith, only.1)
    ]

pub at_end : {X : Type 0} (xs : List X) (x : X) → At (xs ++ x ∷ []) (length xs) x
at_end xs x = at_right xs (x ∷ []) (length xs) 0 x (omega arith) refl

-- ---- from a place on

pub from_left : {X : Type 0} (xs ys : List X) (k : ℕ) (x : X) → From xs k x → From (xs ++ ys) k x
from_left xs ys k x h = (h.0, h.1, at_left xs ys h.0 x h.2)

pub from_right : {X : Type 0} (xs ys : List X) (k : ℕ) (x : X) → k ≤ length xs → From ys 0 x → From (xs ++ ys) k x
from_right xs ys k x low h = (length xs + h.0, omega arith, at_right xs ys (length xs + h.0) h.0 x refl h.2)

pub from_split : {X : Type 0} (xs ys : List X) (k : ℕ) (x : X) → From (xs ++ ys) k x → From xs k x ⊎ From ys 0 x
from_split xs ys k x h =
    elim (at_split xs ys h.0 x h.2) [
      | inl left ↦ inl (h.0, h.1, left)
      | inr right ↦ inr (right.0, omega arith, right.2)
    ]

pub from_less : {X : Type 0} (xs : List X) (j k : ℕ) (x : X) → j ≤ k → From xs k x → From xs j x
from_less xs j k x less h = (h.0, (let more : k ≤ h.0 = h.1 in omega arith), h.2)

pub from_past : {X : Type 0} (xs : List X) (k : ℕ) (x : X) → length xs ≤ k → From xs k x → ⊥
from_past xs k x past h =
    let more : k ≤ h.0 = h.1 in
    let low = at_within xs h.0 x h.2 in
    omega arith

pub from_more : {X : Type 0} (xs : List X) (x : X) (k : ℕ) (y : X) → From (xs ++ x ∷ []) k y → From xs k y ⊎ (y ≡ x)
from_more xs x k y h =
    elim (at_more xs x h.0 y h.2) [
      | inl left ↦ inl (h.0, h.1, left)
      | inr right ↦ inr right.1
    ]

pub from_end : {X : Type 0} (xs : List X) (x : X) (k : ℕ) → k ≤ length xs → From (xs ++ x ∷ []) k x
from_end xs x k low = (length xs, low, at_end xs x)

-- what stands from the length of the first part on stands in the second
pub from_behind : {X : Type 0} (xs ys : List X) (k : ℕ) (x : X) → length xs ≤ k → From (xs ++ ys) k x → From ys 0 x
from_behind xs ys k x past h =
    elim (from_split xs ys k x h) [
      | inl left ↦ absurd (from_past xs k x past left)
      | inr right ↦ right
    ]

pub from_contains : {X : Type 0} (xs : List X) (x : X) → Contains xs x → From xs 0 x
from_contains xs x there =
    (there.0, omega arith, slice_get_read xs (length xs) there.0 x refl there.1 (sym there.2))

pub contains_from : {X : Type 0} (xs : List X) (x : X) → From xs 0 x → Contains xs x
contains_from xs x h = (h.0, at_within xs h.0 x h.2, get_or_from_slice_get xs h.0 x x h.2)
