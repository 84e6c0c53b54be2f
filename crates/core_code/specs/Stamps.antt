-- No public contract rests on this: the first of those methods that are the same, found by stamps.
use Rattle.std.specs.Prelude.{◌≡◌, ℕ, ◌≤◌, ◌<◌, Bool, not, List, [], ◌∷◌, ◌++◌, filter, nat_eq, slice_index_or}
use Rattle.std.specs.Prelude.{if◌then◌else◌}
use Rattle.std.specs.List.{list_any}
use Rattle.racer_base.specs.declared.ids.MethodId.{MethodId}
use Rattle.core_code.specs.CalleeRows.{different}

-- whether the method of this number is in a row
abbrev pub is_member : List MethodId → ℕ → Bool
is_member row n = list_any (λ (m : MethodId). nat_eq m.0 n) row

abbrev pub stamp_of : List ℕ → ℕ → ℕ
stamp_of stamps n = slice_index_or stamps n 0

-- a row with a method put at its end, unless it is known
abbrev pub pushed : List MethodId → MethodId → Bool → List MethodId
pushed row m known = if known then row else row ++ m ∷ []

-- all stamps are smaller than this one
abbrev pub AreBelow : List ℕ → ℕ → Type 0
AreBelow stamps stamp = (n : ℕ) → stamp_of stamps n < stamp

-- none is greater, and it stands at the methods of a row and at no others
pub record Tell (stamps : List ℕ) (stamp : ℕ) (row : List MethodId) : Type 0 where
  pub most : (n : ℕ) → stamp_of stamps n ≤ stamp
  pub members : (n : ℕ) → nat_eq (stamp_of stamps n) stamp ≡ is_member row n

-- the different ones among these that are not yet in a row
abbrev pub others : List MethodId → List MethodId → List MethodId
others row callees = filter (λ (m : MethodId). not (is_member row m.0)) (different callees)
