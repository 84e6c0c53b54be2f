-- A contract of a public call rests on this: `Folder` and `Sink`. What they may tell of themselves, and how a count of
-- faults moves.
use Rattle.std.specs.Prelude.{◌≡◌, ℕ, Bool, ◌<◌, ◌≤◌, List, ◌++◌, Option, None, Some}
use Rattle.std.specs.Ordering.{nat_cmp, eq_by_cmp}
use Rattle.std.specs.List.{IsDistinct, list_any}
use Rattle.std.specs.Cmp.Lexicographic.{slice_cmp}
use Rattle.std.specs.FinMap.{FinMap, contains_key}

-- whether two names have the same bytes
abbrev pub same_name : List ℕ → List ℕ → Bool
same_name = eq_by_cmp (slice_cmp nat_cmp)

-- names in byte order, each with its bytes
abbrev pub Files : Type 0
Files = FinMap (slice_cmp nat_cmp) (List ℕ)

-- what a folder tells: its name, and its files
pub record Told : Type 0 where
  pub name : List ℕ
  pub files : Files

-- the names of the files, each once, in some order
pub record AreNames (files : Files) (names : List (List ℕ)) : Type 0 where
  pub each_once : IsDistinct same_name names
  pub members : (name : List ℕ) → contains_key files name ≡ list_any (same_name name) names

-- the last value of a count of faults, where it stands still
abbrev pub last_count : ℕ
last_count = 18446744073709551615

-- a count goes from old to new at a fault: it rises, unless it stands at its last value
pub record IsRise (old new : ℕ) : Type 0 where
  pub not_below : old ≤ new
  pub rises : old < last_count → old < new

-- the bytes that were taken, where they are told, with this piece at their end
abbrev pub taken_and : Option (List ℕ) → List ℕ → Option (List ℕ)
taken_and None piece = None
taken_and (Some bytes) piece = Some (bytes ++ piece)
