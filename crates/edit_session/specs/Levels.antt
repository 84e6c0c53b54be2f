-- No public contract rests on this: levels, as they are found.
use Rattle.std.specs.Prelude.{◌≡◌, ℕ, suc, List, Option, None, Some, IfSome, if◌then◌else◌, length, map}
use Rattle.std.specs.List.{range_with_len}
use Rattle.racer_base.specs.declared.ids.MethodId.{MethodId}
use Rattle.core_code.specs.Calls.{greatest, is_analysed}
use Rattle.core_code.specs.Core.{Core}
use Rattle.transfer_ties.specs.Again.{level_of}
use Rattle.transfer_ties.specs.Partners.{partner_in}

abbrev pub known_at : List (Option ℕ) → MethodId → Option ℕ
known_at levels m = partner_in levels m.0

-- what is known are levels
abbrev pub AreLevels : Core → List (Option ℕ) → Type 0
AreLevels core levels = (m : MethodId) → IfSome (known_at levels m) (λ level. level ≡ level_of core m)

-- one more than the highest level of these methods, 0 where there are none
abbrev pub level_above : Core → List MethodId → ℕ
level_above core ms = greatest (map (λ (n : MethodId). suc (level_of core n)) ms)

-- the level of a method, none where it is not analysed
abbrev pub level_in : Core → MethodId → Option ℕ
level_in core m = if is_analysed core m then Some (level_of core m) else None

-- those of the methods of so many numbers, from one on
abbrev pub levels_from : Core → ℕ → ℕ → List (Option ℕ)
levels_from core first count = map (λ n. level_in core (record { 0 = n })) (range_with_len first count)

abbrev pub levels_of : Core → List (Option ℕ)
levels_of core = levels_from core 0 (length core.methods)
