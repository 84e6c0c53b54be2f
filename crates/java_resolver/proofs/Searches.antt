-- A search through a list for an element that passes a test: one turn, and its two ends.
use Rattle.std.proofs.Common.{◌≡◌, ℕ, ◌+◌, ◌<◌, ◌≤◌, Bool, true, false, ◌||◌, List, ◌∷◌, length, get_or, drop, sym}
use Rattle.std.proofs.Common.{ap, ◌∙◌}
use Rattle.std.proofs.lemmas.List.{at_drop_more, at_drop_all}
use Rattle.std.specs.List.{list_any}

at_next : {A : Type 0} (test : A → Bool) (xs : List A) (i : ℕ) (x : A) (b : Bool) → i < length xs →
    x ≡ get_or xs i x → test x ≡ b → list_any test (drop i xs) ≡ (b || list_any test (drop (i + 1) xs))
at_next test xs i x b within is here =
    at_drop_more (list_any test) xs i x within
    ∙ ap (λ y. list_any test (y ∷ drop (i + 1) xs)) (sym is)
    ∙ ap (λ c. c || list_any test (drop (i + 1) xs)) here

pub passed : {A : Type 0} (test : A → Bool) (xs : List A) (i : ℕ) (x : A) → i < length xs → x ≡ get_or xs i x →
    test x ≡ false → list_any test (drop i xs) ≡ list_any test xs →
    list_any test (drop (i + 1) xs) ≡ list_any test xs
passed test xs i x within is here kept = sym (at_next test xs i x false within is here) ∙ kept

pub found : {A : Type 0} (test : A → Bool) (xs : List A) (i : ℕ) (x : A) → i < length xs → x ≡ get_or xs i x →
    test x ≡ true → list_any test (drop i xs) ≡ list_any test xs → true ≡ list_any test xs
found test xs i x within is here kept = sym (at_next test xs i x true within is here) ∙ kept

pub missed : {A : Type 0} (test : A → Bool) (xs : List A) (i : ℕ) → length xs ≤ i →
    list_any test (drop i xs) ≡ list_any test xs → false ≡ list_any test xs
missed test xs i past kept = sym (at_drop_all (list_any test) xs i past) ∙ kept
