-- A contract of a public call rests on this: `falling_numbers`, and `call_rows` of core_code. Numbers that fall
-- along calls.
use Rattle.std.specs.Prelude.{ℕ, ◌<◌, List, slice_index_or}
use Rattle.racer_base.specs.declared.ids.MethodId.{MethodId}
use Rattle.core_code.specs.Chains.{Calls}

-- the number of a method; one that has none is 0
abbrev pub number_of : List ℕ → MethodId → ℕ
number_of numbers m = slice_index_or numbers m.0 0

-- the number of each method is greater than those of the methods that it calls
abbrev pub DoFall : List (List MethodId) → List ℕ → Type 0
DoFall rows numbers = (m n : MethodId) → Calls rows m n → number_of numbers n < number_of numbers m
