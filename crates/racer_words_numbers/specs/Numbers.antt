-- A contract of a public call rests on this: what numbers the words of a command line are.
use Rattle.std.specs.Prelude.{ℕ, Bool, false, not, ◌&&◌, ◌==◌, ◌+◌, ◌*◌, ◌-◌, List, [], ◌∷◌, Option, None, Some}
use Rattle.std.specs.Prelude.{length, fold, nat_le, if◌then◌else◌}
use Rattle.std.specs.List.{list_all}
use Rattle.racer_base.specs.declared.limits.TheConstants.{MAX_WORKERS}

abbrev pub is_digit : ℕ → Bool
is_digit b = nat_le 48 b && nat_le b 57

-- one to three digits, of which the first is no `0` (48)
abbrev pub is_number : List ℕ → Bool
is_number [] = false
is_number (b ∷ bs) = not (b == 48) && (list_all is_digit (b ∷ bs) && nat_le (length (b ∷ bs)) 3)

abbrev pub number : List ℕ → ℕ
number word = fold (λ n b. n * 10 + (b - 48)) 0 word

-- a number up to this one
abbrev pub up_to : ℕ → List ℕ → Option ℕ
up_to most word = if is_number word && nat_le (number word) most then Some (number word) else None

-- 4 workers where the words name no number
abbrev pub workers_of : Option (List ℕ) → Option ℕ
workers_of None = Some 4
workers_of (Some word) = up_to MAX_WORKERS word
