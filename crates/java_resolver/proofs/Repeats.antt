-- The first element that is the same as an earlier one, looked for from left to right.
use Rattle.std.proofs.Common.{◌≡◌, ℕ, ◌+◌, ◌<◌, ◌≤◌, Bool, List, [], ◌∷◌, ◌++◌, Some, None, length, get_or, take, drop}
use Rattle.std.proofs.Common.{length-take, min, sym, ap, ◌∙◌, arith}
use Rattle.std.proofs.lemmas.List.{at_drop_more, at_drop_all, take_more, get_or-take, get_or_default}
use Rattle.std.specs.Prelude.{Option, option_map}
use Rattle.java_resolver.specs.Firsts.{first_that}
use Rattle.java_resolver.specs.Refusals.{Repeat, repeated_after}
use Rattle.java_resolver.proofs.FirstOnes.{find_by_first, first_that-within}

-- what the next element makes of the search, given the first that is the same
abbrev pub next : {A : Type 0} → (A → A → Bool) → List A → A → List A → Option A → Option (Repeat A)
next same seen x xs found =
    elim found [
      | Some y ↦ Some (record { first = y; second = x })
      | None ↦ repeated_after same (seen ++ x ∷ []) xs
    ]

step : {A : Type 0} (same : A → A → Bool) (xs : List A) (i : ℕ) (x : A) → i < length xs → x ≡ get_or xs i x →
    repeated_after same (take i xs) (drop i xs) ≡
    next same (take i xs) x (drop (i + 1) xs)
    (option_map (λ n. get_or (take i xs) n x) (first_that (λ y. same y x) (take i xs)))
step same xs i x within is =
    at_drop_more (repeated_after same (take i xs)) xs i x within
    ∙ ap (λ y. repeated_after same (take i xs) (y ∷ drop (i + 1) xs)) (sym is)
    ∙ ap (next same (take i xs) x (drop (i + 1) xs)) (find_by_first (λ y. same y x) (take i xs) x)

-- the element is the same as the first of these, y
pub repeat_found : {A : Type 0} (same : A → A → Bool) (xs : List A) (i n : ℕ) (x y : A) → i < length xs →
    x ≡ get_or xs i x → y ≡ get_or xs n y → Some n ≡ first_that (λ z. same z x) (take i xs) →
    repeated_after same (take i xs) (drop i xs) ≡ Some (record { first = y; second = x })
repeat_found same xs i n x y within is first found =
    let before : n < length (take i xs) = first_that-within (λ z. same z x) (take i xs) n (sym found) in
    let size : length (take i xs) ≡ min i (length xs) = length-take i xs in
    let below : n < i = omega arith in
    let there : n < length xs = omega arith in
    let taken : get_or (take i xs) n x ≡ y =
    get_or-take i xs n x below ∙ get_or_default xs n x y there ∙ sym first
    in
    step same xs i x within is
    ∙ ap (λ o. next same (take i xs) x (drop (i + 1) xs) (option_map (λ n. get_or (take i xs) n x) o)) (sym found)
    ∙ ap (λ z. Some (record { first = z; second = x })) taken

pub repeat_passed : {A : Type 0} (same : A → A → Bool) (xs : List A) (i : ℕ) (x : A) → i < length xs →
    x ≡ get_or xs i x → None ≡ first_that (λ y. same y x) (take i xs) →
    repeated_after same (take i xs) (drop i xs) ≡ repeated_after same (take (i + 1) xs) (drop (i + 1) xs)
repeat_passed same xs i x within is none =
    step same xs i x within is
    ∙ ap (λ o. next same (take i xs) x (drop (i + 1) xs) (option_map (λ n. get_or (take i xs) n x) o)) (sym none)
    ∙ ap (λ y. repeated_after same (take i xs ++ y ∷ []) (drop (i + 1) xs)) is
    ∙ ap (λ ys. repeated_after same ys (drop (i + 1) xs)) (sym (take_more xs i x within))

pub repeat_none : {A : Type 0} (same : A → A → Bool) (xs : List A) (i : ℕ) → length xs ≤ i →
    repeated_after same (take i xs) (drop i xs) ≡ None
repeat_none same xs i past = at_drop_all (repeated_after same (take i xs)) xs i past
