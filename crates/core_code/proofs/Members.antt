-- Tests of the members of a list.
use Rattle.std.proofs.Common.{◌≡◌, ℕ, zero, suc, ◌<◌, Bool, true, false, ◌||◌, List, [], ◌∷◌, Some, refl}
use Rattle.std.proofs.Common.{ap, ◌∙◌, arith, slice_get, sym}
use Rattle.std.specs.List.{Contains, list_all, list_any}
use Rattle.std.proofs.lemmas.Option.{get_or_from_slice_get, slice_get_within}
use Rattle.std.proofs.lemmas.Bool.{and_parts}

pub in_tail : {X : Type 0} (x : X) (xs : List X) (y : X) → Contains xs y → Contains (x ∷ xs) y
in_tail x xs y there = (suc there.0, omega (arith, there.1), there.2)

-- where one passes, there is one
pub passing : {X : Type 0} (test : X → Bool) (xs : List X) → list_any test xs ≡ true →
    (x : X) × Contains xs x × (test x ≡ true)
passing test [] h = cc
passing {X} test (x ∷ xs) h =
    elim (test x) as (λ b. test x ≡ b → (b || list_any test xs) ≡ true →
    (y : X) × Contains (x ∷ xs) y × (test y ≡ true)) [
      | true ↦ λ e g. (x, (0, omega arith, refl), e)
      | false ↦ λ e g. let r = passing test xs g in (r.0, in_tail x xs r.0 r.1, r.2)
    ] refl h

-- where there is one that passes, one passes
pub passes : {X : Type 0} (test : X → Bool) (xs : List X) (y : X) → Contains xs y → test y ≡ true →
    list_any test xs ≡ true
passes test [] y there h = absurd (let within : there.0 < 0 = there.1 in omega arith)
passes {X} test (x ∷ xs) y (zero, within, is) h = ap (λ b. b || list_any test xs) (ap test is ∙ h)
passes {X} test (x ∷ xs) y (suc k, within, is) h =
    elim (test x) as (λ b. (b || list_any test xs) ≡ true) [
      | true ↦ refl
      | false ↦ passes test xs y (k, omega (arith, within), is) h
    ]

-- where all pass, each does
pub each : {X : Type 0} (test : X → Bool) (xs : List X) (y : X) → list_all test xs ≡ true → Contains xs y →
    test y ≡ true
each test [] y h there = absurd (let within : there.0 < 0 = there.1 in omega arith)
each test (x ∷ xs) y h (zero, within, is) =
    ap test (sym is) ∙ (and_parts (test x) (list_all test xs) h).0
each test (x ∷ xs) y h (suc k, within, is) =
    each test xs y (and_parts (test x) (list_all test xs) h).1 (k, omega (arith, within), is)

-- what stands at a place is there
pub at_place : {X : Type 0} (xs : List X) (k : ℕ) (x : X) → slice_get xs k ≡ Some x → Contains xs x
at_place xs k x e = (k, slice_get_within xs k x e, get_or_from_slice_get xs k x x e)
