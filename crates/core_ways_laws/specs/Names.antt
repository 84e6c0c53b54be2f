-- A contract of a public call rests on this: what the values of a method are called in the names of a leg's entry. A
-- name is a path that begins at `this` or at a class; a value that the analysis calls by no such path has none.
use Rattle.std.specs.Prelude.{List, [], ◌∷◌, Option, None, Some, map, slice_index_or}
use Rattle.std.specs.Option.{option_and_then}
use Rattle.racer_base.specs.declared.ids.FieldId.{FieldId}
use Rattle.access_paths.specs.declared.path.Root.{Root}
use Rattle.access_paths.specs.declared.path.Root.TheVariants.{This, Class, Formal, Some as SomeOf}
use Rattle.access_paths.specs.declared.path.Path.{Path}
use Rattle.access_paths.specs.Paths.{alone, extended}
use Rattle.owner_domain.specs.declared.value.Value.{Value}
use Rattle.owner_domain.specs.declared.value.Value.TheVariants.{Owned, Named, Unnamed}
use Rattle.access_domain.specs.Substitution.{Actuals, Passed}

-- what `this` and each parameter of a method are called
abbrev pub Naming : Type 0
Naming = Passed (Option Path)

abbrev pub root_name : Naming → Root → Option Path
root_name n This = n.this
root_name n (Formal i) = slice_index_or n.formals i None
root_name n (Class c) = Some (alone (Class c))
root_name n (SomeOf c) = None

-- a name with one field more
abbrev pub longer_name : Option Path → FieldId → Option Path
longer_name name f = option_and_then (λ q. extended q f) name

-- the same by these fields in turn
abbrev pub name_along : Option Path → List FieldId → Option Path
name_along name [] = name
name_along name (f ∷ fs) = name_along (longer_name name f) fs

-- what a value is called
abbrev pub name_of : Naming → Value → Option Path
name_of n Owned = None
name_of n Unnamed = None
name_of n (Named p) = name_along (root_name n p.root) p.fields

-- the names in a method that is called with these values
abbrev pub callee_naming : Naming → Actuals → Naming
callee_naming n actuals = record { this = name_of n actuals.this; formals = map (name_of n) actuals.formals }

-- the names in an entry: no parameter has one
abbrev pub entry_naming : Naming
entry_naming = record { this = Some (alone This); formals = [] }
