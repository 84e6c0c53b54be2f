-- A contract of a public call rests on this: when two access records have one key, and the first of each.
use Rattle.std.specs.Prelude.{◌≡◌, ◌≤◌, length, Bool, true, false, ◌&&◌, not, List, [], ◌∷◌, filter}
use Rattle.racer_base.specs.declared.ids.Touch.{Touch}
use Rattle.racer_base.specs.declared.limits.TheConstants.{MAX_SUMMARY_KEYS}
use Rattle.access_paths.specs.declared.path.Path.{Path}
use Rattle.access_paths.specs.Paths.{same_path}
use Rattle.core_code.specs.Touches.{is_write}
use Rattle.access_domain.specs.declared.access.Access.{Access}

abbrev pub same_flag : Bool → Bool → Bool
same_flag true b = b
same_flag false b = not b

abbrev pub same_touch : Touch → Touch → Bool
same_touch a b = same_flag (is_write a) (is_write b)

-- whether two records have the same path, kind and flags
abbrev pub same_key : Access → Access → Bool
same_key a b =
    same_path a.path b.path && same_touch a.kind b.kind && same_flag a.locked b.locked && same_flag a.main b.main

-- the first of those that are the same, in order
abbrev pub firsts : {X : Type 0} → (X → X → Bool) → List X → List X
firsts same [] = []
firsts same (x ∷ xs) = x ∷ filter (λ y. not (same x y)) (firsts same xs)

-- the first record of each key, in order
abbrev pub first_of_keys : List Access → List Access
first_of_keys = firsts same_key

-- the different paths of a list
abbrev pub different_paths : List Path → List Path
different_paths = firsts same_path

-- no two of the records have one key, and there are no more than the limit
pub record IsWithin (records : List Access) : Type 0 where
  pub firsts : first_of_keys records ≡ records
  pub limit : length records ≤ MAX_SUMMARY_KEYS
