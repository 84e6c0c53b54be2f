-- A contract of a public call rests on this: the start paths and the cells that texts are.
use Rattle.std.specs.Prelude.{ℕ, suc, Bool, true, false, List, [], ◌∷◌, Option, None, Some, is_some, length, nat_lt}
use Rattle.std.specs.Prelude.{option_and_then, if◌then◌else◌}
use Rattle.racer_base.specs.declared.ids.FieldId.{FieldId}
use Rattle.racer_base.specs.declared.limits.TheConstants.{MAX_PATH_FIELDS}
use Rattle.core_code.specs.Core.{Core, Method}
use Rattle.core_semantics.specs.declared.object.Object.TheVariants.{Start as StartOf}
use Rattle.core_semantics.specs.declared.object.StartPath.{StartPath}
use Rattle.core_semantics.specs.declared.object.StartRoot.{StartRoot}
use Rattle.core_semantics.specs.declared.object.StartRoot.TheVariants.{This, Class, Param}
use Rattle.core_semantics.specs.Objects.{lengthened, root_path}
use Rattle.core_semantics_kinds.specs.Reached.{Roots, is_cell, reached_from, roots_of}
use Rattle.witness_text_names.specs.declared.cells.Cell.{Cell}
use Rattle.witness_text_names.specs.declared.cells.NamedPath.{NamedPath}
use Rattle.witness_text_names.specs.declared.cells.NamedPath.TheVariants.{Absent, NoCell, Is}
use Rattle.witness_text_names.specs.declared.objects.Named.{Named}
use Rattle.witness_text_names.specs.declared.objects.Named.TheVariants.{All, NoneAt}
use Rattle.witness_text_names.specs.Names.{field_named, names_in, root_named}

-- the start path with one field more, where it leads to an object of a class of the program
abbrev pub one_field : Core → Roots → List ℕ → StartPath → Option StartPath
one_field core roots name p =
    option_and_then (λ f. if is_some (reached_from core roots (lengthened p f)) then Some (lengthened p f) else None)
    (option_and_then (field_named core name) (reached_from core roots p))

abbrev pub path_along : Core → Roots → List (List ℕ) → StartPath → Option StartPath
path_along core roots [] p = Some p
path_along core roots (name ∷ names) p = option_and_then (path_along core roots names) (one_field core roots name p)

-- a root, and at least one field
abbrev pub path_named : Core → Method → Method → List (List ℕ) → Option StartPath
path_named core f g (root ∷ name ∷ names) =
    option_and_then (λ r. path_along core (roots_of f g) (name ∷ names) (root_path r)) (root_named core f g root)
path_named core f g _ = None

-- the right start path that a text is, where it is one
abbrev pub object_named : Core → Method → Method → List ℕ → Option StartPath
object_named core f g text = path_named core f g (names_in text)

-- the start paths that texts are, or the number of the first text that is none
abbrev pub before : StartPath → Named → Named
before p (All ps) = All (p ∷ ps)
before p (NoneAt i) = NoneAt (suc i)

abbrev pub objects_named : Core → Method → Method → List (List ℕ) → Named
objects_named core f g [] = All []
objects_named core f g (text ∷ texts) =
    elim (object_named core f g text) [ None ↦ NoneAt 0 | Some p ↦ before p (objects_named core f g texts) ]

-- ---- cells

-- a field of what a start path leads to, of whatever kind
abbrev pub last_field : Core → Roots → List ℕ → StartPath → Option (StartPath × FieldId)
last_field core roots name p =
    option_and_then (λ f. if is_cell core roots p f then Some (p, f) else None)
    (option_and_then (field_named core name) (reached_from core roots p))

-- each name but the last leads to an object, and the last is a field of that
abbrev pub cell_along : Core → Roots → List (List ℕ) → StartPath → Option (StartPath × FieldId)
cell_along core roots [] p = None
cell_along core roots (name ∷ []) p = last_field core roots name p
cell_along core roots (name ∷ next ∷ names) p =
    option_and_then (cell_along core roots (next ∷ names)) (one_field core roots name p)

-- the roots that both threads have: `this` and the classes
abbrev pub is_shared : StartRoot → Bool
is_shared This = true
is_shared (Class c) = true
is_shared (Param t i) = false

abbrev pub cell_from : Core → Method → Method → List (List ℕ) → StartRoot → Option (StartPath × FieldId)
cell_from core f g names r = if is_shared r then cell_along core (roots_of f g) names (root_path r) else None

-- a path has at most so many fields
abbrev pub short_cell : StartPath × FieldId → Option Cell
short_cell at =
    if nat_lt (length at.0.fields) MAX_PATH_FIELDS then Some (record { object = StartOf at.0; field = at.1 }) else None

-- a root, and the fields behind it
abbrev pub cell_of : Core → Method → Method → List (List ℕ) → Option Cell
cell_of core f g [] = None
cell_of core f g (root ∷ names) =
    option_and_then short_cell (option_and_then (cell_from core f g names) (root_named core f g root))

-- the cell that a text is, where it is one
abbrev pub cell_named : Core → Method → Method → List ℕ → Option Cell
cell_named core f g text = cell_of core f g (names_in text)

abbrev pub named_path : Option Cell → NamedPath
named_path None = NoCell
named_path (Some cell) = Is cell

-- what the path of a file is, where it has one
abbrev pub path_cell : Core → Method → Method → Option (List ℕ) → NamedPath
path_cell core f g None = Absent
path_cell core f g (Some text) = named_path (cell_named core f g text)
