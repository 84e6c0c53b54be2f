-- Members of lists, of those that pass a test, and of the first of those that are the same.
use Rattle.std.proofs.Common.{◌≡◌, ℕ, zero, suc, ◌<◌, Bool, true, false, cond, not, ◌⊎◌, inl, inr, ⊎_elim, List, []}
use Rattle.std.proofs.Common.{◌∷◌, Some, length, filter, slice_get, refl, sym, ap, ◌∙◌, arith}
use Rattle.std.specs.List.{Contains}
use Rattle.core_code.proofs.Membership.{In, in_from_Contains}
use Rattle.access_domain.specs.Records.{firsts}

pub in_at : {X : Type 0} (xs : List X) (i : ℕ) (x : X) → slice_get xs i ≡ Some x → In xs x
in_at [] i x is = cc
in_at (y ∷ xs) zero x is = let same : y ≡ x = cc in inl same
in_at (y ∷ xs) (suc i) x is = inr (in_at xs i x is)

pub contains_from_in : {X : Type 0} (xs : List X) (y : X) → In xs y → Contains xs y
contains_from_in [] y h = absurd h
contains_from_in (x ∷ xs) y h =
    ⊎_elim
    (λ e. (0, omega arith, e))
    (λ r. let c : Contains xs y = contains_from_in xs y r in
    (suc c.0, let within : c.0 < length xs = c.1 in omega arith, c.2)) h

pub in_from_contains : {X : Type 0} (xs : List X) (y : X) → Contains xs y → In xs y
in_from_contains xs y h = in_from_Contains xs y h.0 h.1 h.2

filter_gives : {X : Type 0} (test : X → Bool) (xs : List X) (y : X) → In (filter test xs) y → In xs y
filter_gives test [] y h = absurd h
filter_gives {X} test (x ∷ xs) y h =
    elim (test x) as (λ b. In (cond b (x ∷ filter test xs) (filter test xs)) y → In (x ∷ xs) y) [
      | true ↦ λ there. ⊎_elim (λ e. inl e) (λ r. inr (filter_gives test xs y r)) there
      | false ↦ λ there. inr (filter_gives test xs y there)
    ] h

pub filter_has : {X : Type 0} (test : X → Bool) (xs : List X) (y : X) → In xs y → test y ≡ true → In (filter test xs) y
filter_has test [] y h passes = absurd h
filter_has {X} test (x ∷ xs) y h passes =
    elim (test x) as (λ b. test x ≡ b → In (cond b (x ∷ filter test xs) (filter test xs)) y) [
      | true ↦ λ is. ⊎_elim (λ e. inl e) (λ r. inr (filter_has test xs y r passes)) h
      | false ↦ λ is.
          ⊎_elim
          (λ e. let wrong : false ≡ true = sym is ∙ ap test e ∙ passes in cc)
          (λ r. filter_has test xs y r passes) h
    ] refl

-- each of the firsts is there
pub firsts_give : {X : Type 0} (same : X → X → Bool) (xs : List X) (y : X) → In (firsts same xs) y → In xs y
firsts_give same [] y h = absurd h
firsts_give same (x ∷ xs) y h =
    ⊎_elim (λ e. inl e) (λ r.
    inr (firsts_give same xs y (filter_gives (λ z. not (same x z)) (firsts same xs) y r))) h

-- where those that are the same are equal, each is among the firsts
pub firsts_have : {X : Type 0} (same : X → X → Bool) → ((x y : X) → same x y ≡ true → x ≡ y) → (xs : List X) (y : X) →
    In xs y → In (firsts same xs) y
firsts_have same equal [] y h = absurd h
firsts_have {X} same equal (x ∷ xs) y h =
    ⊎_elim (λ e. inl e) (λ r.
    elim (same x y) as (λ b. same x y ≡ b → (x ≡ y) ⊎ In (filter (λ z. not (same x z)) (firsts same xs)) y) [
      | true ↦ λ is. inl (equal x y is)
      | false ↦ λ is.
          inr (filter_has (λ z. not (same x z)) (firsts same xs) y (firsts_have same equal xs y r)
          (ap (λ (b : Bool). not b) is))
    ] refl) h
