-- A contract of a public call rests on this: cuts of a list into parts, and what the parts are together.
use Rattle.std.specs.Prelude.{Bool, true, false, List, [], ◌∷◌, ◌++◌}

abbrev pub onto_first : {A : Type 0} → A → List (List A) → List (List A)
onto_first x [] = (x ∷ []) ∷ []
onto_first x (p ∷ ps) = (x ∷ p) ∷ ps

-- one element more before what is cut already; with a cut behind it, or none
abbrev pub with_cut : {A : Type 0} → (cut : Bool) → A → List (List A) → List (List A)
with_cut true x ps = (x ∷ []) ∷ ps
with_cut false x ps = onto_first x ps

abbrev pub joined : {A : Type 0} → List (List A) → List A
joined [] = []
joined (p ∷ ps) = p ++ joined ps

-- whether there is a last element, and it passes the test
abbrev pub ends : {A : Type 0} → (A → Bool) → List A → Bool
ends test [] = false
ends test (x ∷ []) = test x
ends test (x ∷ y ∷ xs) = ends test (y ∷ xs)
