-- A contract of a public call rests on this: the families of the types of containers, and the types of the objects that
-- fields begin with.
use Rattle.std.specs.Prelude.{ℕ, Bool, ◌&&◌, List, Option, Some, None, if◌then◌else◌}
use Rattle.container_cells.specs.declared.table.Family.{Family}
use Rattle.container_cells.specs.Table.{family_of}
use Rattle.racer_base.specs.declared.ids.Kind.{Kind}
use Rattle.java_resolver_parts.specs.LockTypes.{is_other}
use Rattle.java_tree.specs.Trees.{Ty, Typed, Named, Parts, no_part, part_then, Part, Bare, Generic}
use Rattle.java_tree.specs.Trees.{Expr, New, Init, Value}
use Rattle.java_tree.specs.View.{init_of}
use Rattle.java_tree.specs.declared.methods.FieldInitialiser.{FieldInitialiser}
use Rattle.java_tree.specs.declared.methods.FieldInitialiser.TheVariants as field

-- ---- types

abbrev pub part_name : Part → List ℕ
part_name (Bare name) = name
part_name (Generic name arguments) = name

-- by the last of the names, whatever their arguments
abbrev pub parts_family : Parts → Option Family
parts_family no_part = None
parts_family (part_then part no_part) = family_of (part_name part)
parts_family (part_then part parts) = parts_family parts

abbrev pub type_family : Ty → Option Family
type_family (Typed (Named parts) arrays) = parts_family parts
type_family _ = None

-- that of the container that a field holds which begins with a new object of this type, by the kinds of its declared type
-- and of this one
abbrev pub family_held : Bool → Kind → Kind → Ty → Option Family
family_held is_final declared made t =
    if is_final && is_other declared && is_other made then type_family t else None

-- ---- what fields begin with

-- T, where it is `new T(..)` without a class body, and not in parentheses (JLS 15.9)
abbrev pub type_made : Expr → Option Ty
type_made (New t arguments) = Some t
type_made _ = None

abbrev pub type_in : Init → Option Ty
type_in (Value e) = type_made e
type_in _ = None

abbrev pub type_begun : FieldInitialiser → Option Ty
type_begun (field.Formed i) = type_in (init_of i)
type_begun _ = None
