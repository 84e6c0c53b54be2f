-- A contract of a public call rests on this: the cells of fields that are containers, and the fields that these are.
use Rattle.std.specs.Prelude.{ℕ, suc, Bool, true, List, [], ◌∷◌, Option, None, Some, filter, is_some, length, map}
use Rattle.container_cells.specs.declared.cell.Cell.{Cell}
use Rattle.container_cells.specs.declared.cell.Containers.{Containers}
use Rattle.container_cells.specs.declared.cell.Containers.TheVariants.{Opaque, WithCells}
use Rattle.container_cells.specs.declared.table.Family.{Family}
use Rattle.racer_base.specs.declared.ids.Kind.TheVariants.{Other}
use Rattle.java_resolver.specs.declared.infos.FieldInfo.{FieldInfo}
use Rattle.core_code.specs.Names.{content_name}
use Rattle.core_code.specs.declared.parts.FieldCore.{FieldCore}

-- ---- the cells, beside the fields

abbrev pub cell : Family → (content : ℕ) → Cell
cell family n = record { family = family; content = record { 0 = n } }

-- each container field has one, and these are fields that are numbered from n on
abbrev pub cells_from : ℕ → List FieldInfo → List (Option Cell)
cells_from n [] = []
cells_from n (f ∷ fs) = elim f.family [
  | None ↦ None ∷ cells_from n fs
  | Some family ↦ Some (cell family n) ∷ cells_from (suc n) fs
]

abbrev pub no_cell : FieldInfo → Option Cell
no_cell f = None

-- behind all other fields, in the order of the containers
abbrev pub cells_of : Containers → List FieldInfo → List (Option Cell)
cells_of Opaque fields = map no_cell fields
cells_of WithCells fields = cells_from (length fields) fields

-- ---- the fields that they are

abbrev pub is_container : FieldInfo → Bool
is_container f = is_some f.family

abbrev pub containers_in : Containers → List FieldInfo → List FieldInfo
containers_in Opaque fields = []
containers_in WithCells fields = filter is_container fields

-- accesses of what a container holds are recorded, though those of the container are not
abbrev pub content_core : FieldInfo → FieldCore
content_core f =
    record {
      class = f.class;
      name = content_name f.name;
      kind = Other;
      is_static = f.is_static;
      recorded = true;
    }

abbrev pub contents : Containers → List FieldInfo → List FieldCore
contents containers fields = map content_core (containers_in containers fields)
