-- A contract of a public call rests on this: records and paths that are added one after another.
use Rattle.std.specs.Prelude.{List, [], ◌∷◌, ◌++◌, if◌then◌else◌}
use Rattle.std.specs.List.{list_any}
use Rattle.std.specs.FinSet as set
use Rattle.access_paths.specs.declared.path.Path.{Path}
use Rattle.access_paths.specs.Order.{PathSet}
use Rattle.access_domain.specs.declared.access.Access.{Access}
use Rattle.access_domain.specs.Records.{same_key}

-- a record at the end, where its key is new
abbrev pub key_added : List Access → Access → List Access
key_added old access = if list_any (λ earlier. same_key earlier access) old then old else old ++ access ∷ []

abbrev pub keys_added : List Access → List Access → List Access
keys_added old [] = old
keys_added old (access ∷ rest) = keys_added (key_added old access) rest

abbrev pub paths_added : PathSet → List Path → PathSet
paths_added old [] = old
paths_added old (path ∷ rest) = paths_added (set.insert old path) rest
