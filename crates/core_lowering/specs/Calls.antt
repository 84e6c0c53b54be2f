-- No public contract rests on this: the calls of methods, counted.
use Rattle.std.specs.Prelude.{ℕ, ◌+◌, Bool, true, false, List, [], ◌∷◌, length, nat_lt}
use Rattle.std.specs.List.{list_all}
use Rattle.racer_base.specs.declared.ids.MethodId.{MethodId}
use Rattle.core_code.specs.CalleeRows.{different}

-- whether these are numbers below this one
abbrev pub are_low : ℕ → List MethodId → Bool
are_low count = list_all (λ (m : MethodId). nat_lt m.0 count)

-- whether each row has numbers of rows
abbrev pub are_rows_low : List (List MethodId) → Bool
are_rows_low rows = list_all (are_low (length rows)) rows

-- how many different methods these rows have, row by row
abbrev pub edges : List (List MethodId) → ℕ
edges [] = 0
edges (row ∷ rows) = length (different row) + edges rows

-- one more, where it is so
abbrev pub counted : ℕ → Bool → ℕ
counted n true = n + 1
counted n false = n
