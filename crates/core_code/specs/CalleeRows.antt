-- A contract of a public call rests on this: `call_rows`, and law `no_cycles_show_ranks`. The rows of a program, and
-- their ranks.
use Rattle.std.specs.Prelude.{◌≡◌, ℕ, not, List, [], ◌∷◌, filter, length, map, nat_eq}
use Rattle.racer_base.specs.declared.ids.MethodId.{MethodId}
use Rattle.core_code.specs.Falling.{DoFall}
use Rattle.core_code.specs.declared.rows.CallRows.{CallRows}
use Rattle.core_code.specs.Core.{Core, Method}
use Rattle.core_code.specs.Calls.{calls_in}

-- the first of those that are the same, in order
abbrev pub different : List MethodId → List MethodId
different [] = []
different (m ∷ ms) = m ∷ filter (λ (n : MethodId). not (nat_eq m.0 n.0)) (different ms)

-- for each method the different analysed methods that it calls, in order of first call
abbrev pub rows_of : Core → List (List MethodId)
rows_of core = map (λ (m : Method). different (calls_in m.code)) core.methods

-- for each method the analysed methods that it calls, in reading order
abbrev pub code_rows : Core → List (List MethodId)
code_rows core = map (λ (m : Method). calls_in m.code) core.methods

-- what is seen of rows
abbrev pub rows_in : CallRows → List (List MethodId)
rows_in rows = rows.rows

abbrev pub ranks_in : CallRows → List ℕ
ranks_in rows = rows.ranks

-- the rows are those of a program; each method has a rank, which is greater than those of the methods in its row
pub record AreRowsOf (core : Core) (rows : CallRows) : Type 0 where
  pub rows_are : rows_in rows ≡ rows_of core
  pub as_many : length (ranks_in rows) ≡ length core.methods
  pub ranks_fall : DoFall (rows_of core) (ranks_in rows)
