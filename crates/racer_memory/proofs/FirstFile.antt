-- The first file of a name in a list of files.
use Rattle.std.proofs.Common.{ℕ, List, [], ◌∷◌, string_bytes, cond, Option, None, Some, String, Vec, Global}
use Rattle.racer_base.specs.Outside.{same_name}

-- the bytes of the first of these files that has this name
abbrev pub bytes_of : List (String Global × Vec ℕ Global) → List ℕ → Option (List ℕ)
bytes_of [] name = None
bytes_of (file ∷ files) name = cond (same_name name (string_bytes file.0)) (Some file.1.items) (bytes_of files name)
