-- A contract of a public call rests on this: paths and their numbers, and what a path feeds a hasher.
use Rattle.std.proofs.Common.{◌≡◌, ℕ, ◌≤◌, List, [], ◌∷◌, ◌++◌, length, Option, None, Some, slice_get, slice_index_or}
use Rattle.std.proofs.Common.{ap, IsTrue, if◌then◌else◌}
use Rattle.std.specs.List.{list_any}
use Rattle.std.specs.Hash as fed
use Rattle.racer_base.specs.declared.ids.FieldId.{FieldId}
use Rattle.access_paths.specs.declared.path.Path.{Path}
use Rattle.access_paths.specs.declared.path.Root.TheVariants.{This}
use Rattle.access_paths.specs.Paths.{same_path, extended, alone}
use Rattle.access_paths.specs.Order.{root_form, root_number}
use Rattle.access_paths.specs.Same.{equal_of_same}

-- the table's paths by their numbers: each path once, and each number a u32
pub record IsTable (paths : List Path) : Type 0 where
  pub once : (i j : ℕ) (p : Path) → slice_get paths i ≡ Some p → slice_get paths j ≡ Some p → i ≡ j
  pub limit : length paths ≤ 4294967295

-- the table with a path, which stands at its end where it is new
abbrev pub interned : List Path → Path → List Path
interned paths p = if list_any (same_path p) paths then paths else paths ++ p ∷ []

-- the path of this number is one of these
abbrev pub IsNumberOf : List Path → ℕ → (Path → Type 0) → Type 0
IsNumberOf paths n P = (p : Path) × (slice_get paths n ≡ Some p) × P p

-- what the answer says: the number of the longer path, in the table with that path, or that it would be too long
abbrev pub IsLonger : List Path → Option Path → Option ℕ → List Path → Type 0
IsLonger old None None new = new ≡ old
IsLonger old (Some q) (Some n) new = (slice_get new n ≡ Some q) × (new ≡ interned old q)
IsLonger old _ _ new = ⊥

abbrev pub IsLengthened : List Path → ℕ → FieldId → Option ℕ → List Path → Type 0
IsLengthened old n f answer new = (p : Path) × (slice_get old n ≡ Some p) × IsLonger old (extended p f) answer new

-- what a path feeds a hasher
abbrev pub path_input : Path → fed.HashWrites
path_input p = fed.u32 (root_form p.root) ++ fed.u32 (root_number p.root) ++ fed.slice
    (λ (f : FieldId). fed.u32 f.0) p.fields

pub path_input-respects : (p q : Path) → IsTrue (same_path p q) → path_input p ≡ path_input q
path_input-respects p q same = ap path_input (equal_of_same p q same)

-- the second goes on from the first, so that each number keeps its path
abbrev pub GoesOn : List Path → List Path → Type 0
GoesOn old new = (rest : List Path) × (new ≡ old ++ rest)

-- the path of a number, a root alone where it is none
abbrev pub path_at : List Path → ℕ → Path
path_at paths n = slice_index_or paths n (alone This)
