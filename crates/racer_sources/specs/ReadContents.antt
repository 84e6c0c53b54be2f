-- No public contract rests on this: the bytes of files that were read, put behind those of others.
use Rattle.std.specs.Prelude.{◌≡◌, ℕ, ◌+◌, ◌≤◌, List, [], ◌∷◌, ◌++◌, length, Vec}
use Rattle.std.specs.Global.{Global}
use Rattle.racer_base.specs.declared.limits.TheConstants.{MAX_FILES, MAX_FILE_BYTES}
use Rattle.racer_sources.specs.Contents.{bytes_in, AreMost}

-- what was read of one file was put there, whatever the file is
pub record AddsSomeContent (old new : Vec (Vec ℕ Global) Global) : Type 0 where
  pub bytes : Vec ℕ Global
  pub most : length bytes.items ≤ MAX_FILE_BYTES + 1
  pub added : new.items ≡ old.items ++ bytes ∷ []

-- what was read of so many files, which are not too many
pub record AddSomeContents (files : ℕ) (old new : Vec (Vec ℕ Global) Global) : Type 0 where
  pub as_many : length new.items ≡ length old.items + files
  pub few : files ≤ MAX_FILES
  pub most : AreMost old.items → AreMost new.items

-- the bytes of a file
abbrev pub AddsContent : List ℕ → Vec (Vec ℕ Global) Global → Vec (Vec ℕ Global) Global → Type 0
AddsContent bytes old new = bytes_in new.items ≡ bytes_in old.items ++ bytes ∷ []

-- those of these files
abbrev pub AddContents : List (List ℕ) → Vec (Vec ℕ Global) Global → Vec (Vec ℕ Global) Global → Type 0
AddContents files old new = bytes_in new.items ≡ bytes_in old.items ++ files
