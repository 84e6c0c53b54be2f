-- A contract of a public call rests on this: which methods of a newer program are as they were in an older one, and
-- which are to be analysed again, by their levels.
use Rattle.std.specs.Prelude.{ℕ, ◌-◌, Bool, not, ◌&&◌, List, filter, length, map, nat_eq}
use Rattle.std.specs.List.{flat_map, list_any, range_with_len}
use Rattle.std.specs.Cmp.Lexicographic.{pointwise}
use Rattle.racer_base.specs.declared.ids.MethodId.{MethodId}
use Rattle.core_code.specs.Calls.{calls_of, is_analysed, rank_of}
use Rattle.core_code.specs.Core.{Core}
use Rattle.transfer_ties.specs.Forms.{ties_forms}
use Rattle.transfer_ties.specs.Outcomes.{ties_outcomes}

-- Method n of q is as method m of p was: both are analysed and have one form, and each call of n has the outcome that
-- the call of m at its place had.
abbrev pub is_as_before : Core → Core → MethodId → MethodId → Bool
is_as_before p q m n =
    is_analysed p m && is_analysed q n && ties_forms p q m n
    && pointwise (ties_outcomes p q) (calls_of p m) (calls_of q n)

-- all methods, in source order
abbrev pub methods_in : Core → List MethodId
methods_in core = map (λ n. record { 0 = n }) (range_with_len 0 (length core.methods))

-- an analysed method of q that is as no method of p was
abbrev pub is_again : Core → Core → MethodId → Bool
is_again p q n = is_analysed q n && not (list_any (λ m. is_as_before p q m n) (methods_in p))

-- how many calls the longest chain of calls from a method has: a method that calls none has level 0, and each other
-- one more than the highest of those that it calls
abbrev pub level_of : Core → MethodId → ℕ
level_of core m = rank_of core m - 1

-- the analysed methods of a level, in source order
abbrev pub analysed_at : Core → ℕ → List MethodId
analysed_at core level =
    filter (λ m. is_analysed core m && nat_eq (level_of core m) level) (methods_in core)

-- all of them, by their levels
abbrev pub analysed_in : Core → List MethodId
analysed_in core = flat_map (analysed_at core) (range_with_len 0 (length core.methods))

-- those that are analysed again, by level and then in source order
abbrev pub again : Core → Core → List MethodId
again p q = filter (is_again p q) (analysed_in q)
