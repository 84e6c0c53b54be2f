-- A contract of a public call rests on this: values whose paths are numbers of a table, and what they are.
use Rattle.std.specs.Prelude.{ℕ, ◌<◌, Bool, true, false, List, [], ◌∷◌, ◌++◌, length, map, nat_eq, if◌then◌else◌}
use Rattle.access_paths.specs.declared.path.Path.{Path}
use Rattle.access_paths.specs.Table.{path_at}
use Rattle.owner_domain.specs.declared.value.Value.{Value}
use Rattle.owner_domain.specs.declared.value.Value.TheVariants as value
use Rattle.owner_domain.specs.declared.value.State.{State}
use Rattle.owner_domain.specs.declared.numbered.NumberedValue.{NumberedValue}
use Rattle.owner_domain.specs.declared.numbered.NumberedValue.TheVariants.{Owned, Named, Unnamed}
use Rattle.owner_domain.specs.declared.numbered.NumberedState.{NumberedState}

-- the value that a numbered one is in a table
abbrev pub read_value : List Path → NumberedValue → Value
read_value table Owned = value.Owned
read_value table Unnamed = value.Unnamed
read_value table (Named n) = value.Named (path_at table n)

abbrev pub read_state : List Path → NumberedState → State
read_state table s = record { vars = map (read_value table) s.vars; stack = map (read_value table) s.stack }

-- its number is one of the table's
abbrev pub IsInRange : List Path → NumberedValue → Type 0
IsInRange table (Named n) = n < length table
IsInRange table _ = Unit {0}

abbrev pub AllInRange : List Path → List NumberedValue → Type 0
AllInRange table [] = Unit {0}
AllInRange table (v ∷ rest) = IsInRange table v × AllInRange table rest

abbrev pub AreInRange : List Path → NumberedState → Type 0
AreInRange table s = AllInRange table s.vars × AllInRange table s.stack

-- the same, the join and the lost numbers, on numbers alone
abbrev pub same_number : NumberedValue → NumberedValue → Bool
same_number Owned Owned = true
same_number Unnamed Unnamed = true
same_number (Named m) (Named n) = nat_eq m n
same_number _ _ = false

abbrev pub numbers_of : NumberedValue → List ℕ
numbers_of (Named n) = n ∷ []
numbers_of Owned = []
numbers_of Unnamed = []

abbrev pub joined_number : NumberedValue → NumberedValue → NumberedValue
joined_number a b = if same_number a b then a else Unnamed

abbrev pub lost_number : NumberedValue → NumberedValue → List ℕ
lost_number a b = if same_number a b then [] else numbers_of a ++ numbers_of b

abbrev pub joined_numbers : List NumberedValue → List NumberedValue → List NumberedValue
joined_numbers (a ∷ rest) (b ∷ others) = joined_number a b ∷ joined_numbers rest others
joined_numbers _ _ = []

abbrev pub lost_numbers : List NumberedValue → List NumberedValue → List ℕ
lost_numbers (a ∷ rest) (b ∷ others) = lost_number a b ++ lost_numbers rest others
lost_numbers _ _ = []
