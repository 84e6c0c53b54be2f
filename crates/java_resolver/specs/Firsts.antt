-- A contract of a public call rests on this: the number of the first element of a list that passes a test, of the only
-- one, and the last such element.
use Rattle.std.specs.Prelude.{ℕ, suc, Bool, List, [], ◌∷◌, Option, Some, None, if◌then◌else◌, option_map}
use Rattle.std.specs.List.{list_any}
use Rattle.std.specs.Option.{option_or}

-- how many elements stand before the first that passes
abbrev pub first_that : {A : Type 0} → (A → Bool) → List A → Option ℕ
first_that test [] = None
first_that test (x ∷ xs) = if test x then Some 0 else option_map suc (first_that test xs)

-- how many elements stand before the one that passes, where it is the only one
abbrev pub only_that : {A : Type 0} → (A → Bool) → List A → Option ℕ
only_that test [] = None
only_that test (x ∷ xs) =
    if test x then (if list_any test xs then None else Some 0) else option_map suc (only_that test xs)

abbrev pub last_that : {A : Type 0} → (A → Bool) → List A → Option A
last_that test [] = None
last_that test (x ∷ xs) = option_or (last_that test xs) (if test x then Some x else None)
