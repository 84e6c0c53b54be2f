-- A contract of a public call rests on this: `MemoryFolder`. A list of files, each with its name and its bytes.
use Rattle.std.specs.Prelude.{ℕ, List, map, string_bytes, String, Vec}
use Rattle.std.specs.Global.{Global}
use Rattle.std.specs.FinMap.{from_entries}
use Rattle.racer_base.specs.Outside.{Files}

-- the names of these files
abbrev pub names_of : List (String Global × Vec ℕ Global) → List (List ℕ)
names_of files = map (λ file. string_bytes file.0) files

-- these files by their names
abbrev pub files_of : List (String Global × Vec ℕ Global) → Files
files_of files = from_entries (map (λ file. (string_bytes file.0, file.1.items)) files)
