-- No public contract rests on this: the lists that methods stand in.
use Rattle.std.specs.Prelude.{◌≡◌, ℕ, suc, ◌+◌, Bool, false, List, [], ◌∷◌, Option, None, Some, if◌then◌else◌, length}
use Rattle.std.specs.Prelude.{map, nat_eq}
use Rattle.row_links.specs.Lists.{HasEachOnce, list_at, moved}
use Rattle.core_code.specs.Calls.{greatest}

-- one more than a level, 0 where there is none
abbrev pub behind : Option ℕ → ℕ
behind None = 0
behind (Some level) = suc level

-- one more than the highest level, 0 where there is none
abbrev pub level_count : List (Option ℕ) → ℕ
level_count levels = greatest (map behind levels)

abbrev pub is_at : Option ℕ → ℕ → Bool
is_at None level = false
is_at (Some found) level = nat_eq found level

-- the numbers, from this one on, of those of a level
abbrev pub numbers_from : ℕ → List (Option ℕ) → ℕ → List ℕ
numbers_from n [] level = []
numbers_from n (found ∷ levels) level =
    if is_at found level then n ∷ numbers_from (n + 1) levels level else numbers_from (n + 1) levels level

-- the node stands last in the list of its level, where it has one
abbrev pub put_by_level : ℕ → Option ℕ → List (List ℕ) → List (List ℕ)
put_by_level node None lists = lists
put_by_level node (Some level) lists = moved node (2 + level) lists

-- the numbers of each level stand in its list, behind those of methods that are not due and that are finished
pub record AreByLevel (levels : List (Option ℕ)) (lists : List (List ℕ)) : Type 0 where
  pub as_many : length lists ≡ 2 + level_count levels
  pub each_once : HasEachOnce lists
  pub by_level : (level : ℕ) → list_at lists (2 + level) ≡ numbers_from 0 levels level
