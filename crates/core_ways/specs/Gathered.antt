-- A contract of a public call rests on this: start paths that are gathered one after another, each once.
use Rattle.std.specs.Prelude.{◌≡◌, Bool, List, [], ◌∷◌, ◌++◌, Option, None, Some, if◌then◌else◌}
use Rattle.std.specs.List.{list_any}
use Rattle.std.specs.Ordering.{eq_by_cmp}
use Rattle.core_semantics.specs.declared.object.Object.{Object}
use Rattle.core_semantics.specs.declared.object.Object.TheVariants.{Start as StartOf}
use Rattle.core_semantics.specs.declared.object.StartPath.{StartPath}
use Rattle.core_semantics.specs.declared.object.Value.{Value}
use Rattle.core_semantics.specs.Objects.{same_start_path}
use Rattle.core_semantics.specs.Order.{object_cmp}
use Rattle.core_ways.specs.Marks.{paths_in}

-- whether a path is among these
abbrev pub is_among : List StartPath → StartPath → Bool
is_among paths p = list_any (λ q. same_start_path q p) paths

-- the paths, and this one at the end unless it is there
abbrev pub path_added : List StartPath → StartPath → List StartPath
path_added paths p = if is_among paths p then paths else paths ++ p ∷ []

-- the same with these in turn
abbrev pub gathered : List StartPath → List StartPath → List StartPath
gathered paths [] = paths
gathered paths (p ∷ ps) = gathered (path_added paths p) ps

-- the objects are those of the paths
abbrev pub HasObjectsOf : List Object → List StartPath → Type 0
HasObjectsOf objects paths = (p : StartPath) →
    list_any (eq_by_cmp object_cmp (StartOf p)) objects ≡ is_among paths p

-- the path of the object that a value is, where it has a field
abbrev pub paths_of : Option Value → List StartPath
paths_of None = []
paths_of (Some v) = paths_in v
