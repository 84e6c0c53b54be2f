-- A contract of a public call rests on this: `on_cycles`. Chains of calls.
use Rattle.std.specs.Prelude.{Bool, false, List, [], ◌∷◌, Contains, slice_index_or, IsTrue, ◌↔◌}
use Rattle.racer_base.specs.declared.ids.MethodId.{MethodId}

-- Rows: for each method the methods that it calls. A method without a row calls none.

abbrev pub row_of : List (List MethodId) → MethodId → List MethodId
row_of rows m = slice_index_or rows m.0 []

-- m calls n
abbrev pub Calls : List (List MethodId) → MethodId → MethodId → Type 0
Calls rows m n = Contains (row_of rows m) n

-- a chain of one or more calls leads from m to n: m calls the first of those between them, or n where there are none,
-- and each of these calls the next
abbrev pub IsChain : List (List MethodId) → MethodId → List MethodId → MethodId → Type 0
IsChain rows m [] n = Calls rows m n
IsChain rows m (next ∷ between) n = Calls rows m next × IsChain rows next between n

-- a chain leads from m to m
abbrev pub IsOnCycle : List (List MethodId) → MethodId → Type 0
IsOnCycle rows m = (between : List MethodId) × IsChain rows m between m

-- the flag of a method; one that has none is false
abbrev pub flag_of : List Bool → MethodId → Bool
flag_of flags m = slice_index_or flags m.0 false

-- the flags of those that are on a cycle, and no others, are true
abbrev pub TellCycles : List (List MethodId) → List Bool → Type 0
TellCycles rows flags = (m : MethodId) → IsTrue (flag_of flags m) ↔ IsOnCycle rows m
