-- A contract of a public call rests on this: an order of paths, in which sets of paths are kept.
use Rattle.std.specs.Prelude.{ℕ, List, [], ◌∷◌, ◌++◌, map}
use Rattle.std.specs.Ordering.{nat_cmp}
use Rattle.std.specs.declared.cmp.Ordering.{Ordering}
use Rattle.std.specs.Cmp.Lexicographic.{slice_cmp}
use Rattle.std.specs.FinSet.{FinSet}
use Rattle.racer_base.specs.declared.ids.FieldId.{FieldId}
use Rattle.access_paths.specs.declared.path.Root.{Root}
use Rattle.access_paths.specs.declared.path.Root.TheVariants.{This, Class, Formal, Some as SomeOf}
use Rattle.access_paths.specs.declared.path.Path.{Path}

-- the number of the form of a root
abbrev pub root_form : Root → ℕ
root_form This = 0
root_form (Class c) = 1
root_form (Formal i) = 2
root_form (SomeOf c) = 3

-- the number in a root, 0 where it has none
abbrev pub root_number : Root → ℕ
root_number This = 0
root_number (Class c) = c.0
root_number (Formal i) = i
root_number (SomeOf c) = c.0

abbrev pub root_key : Root → List ℕ
root_key root = root_form root ∷ root_number root ∷ []

-- the numbers of a path: of its root, and then of its fields
abbrev pub path_key : Path → List ℕ
path_key p = root_key p.root ++ map (λ (f : FieldId). f.0) p.fields

abbrev pub path_cmp : Path → Path → Ordering
path_cmp p q = slice_cmp nat_cmp (path_key p) (path_key q)

-- a set of paths
abbrev pub PathSet : Type 0
PathSet = FinSet path_cmp
