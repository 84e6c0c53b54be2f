-- A contract of a public call rests on this: the bytes of files, as the code holds them.
use Rattle.std.specs.Prelude.{◌≡◌, ◌+◌, ◌≤◌, ℕ, All, List, length, map, take, Vec}
use Rattle.std.specs.Global.{Global}
use Rattle.racer_base.specs.declared.limits.TheConstants.{MAX_FILES, MAX_FILE_BYTES}

abbrev pub bytes_in : List (Vec ℕ Global) → List (List ℕ)
bytes_in = map (λ bytes. bytes.items)

-- as much of a file as is read of it: all, or a byte more than it may have
abbrev pub front : List ℕ → List ℕ
front bytes = take (MAX_FILE_BYTES + 1) bytes

-- no more is kept of a file than is read of it
abbrev pub AreMost : List (Vec ℕ Global) → Type 0
AreMost = All (λ (bytes : Vec ℕ Global). length bytes.items ≤ MAX_FILE_BYTES + 1)

-- there are as many contents as names, not too many, and no more of each than is read of it
pub record AreInLimits (names : ℕ) (contents : List (Vec ℕ Global)) : Type 0 where
  pub as_many : length contents ≡ names
  pub few : names ≤ MAX_FILES
  pub most : AreMost contents
