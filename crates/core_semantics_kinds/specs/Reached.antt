-- A contract of a public call rests on this: what a start path leads to, where it is right for two entries.
use Rattle.std.specs.Prelude.{ℕ, Bool, true, false, ◌&&◌, not, List, [], ◌∷◌, Option, None, Some}
use Rattle.std.specs.Prelude.{fold, if◌then◌else◌, is_some, nat_eq, slice_get}
use Rattle.std.specs.List.{list_all}
use Rattle.std.specs.Option.{option_and_then, option_map}
use Rattle.racer_base.specs.declared.ids.ClassId.{ClassId}
use Rattle.racer_base.specs.declared.ids.FieldId.{FieldId}
use Rattle.racer_base.specs.declared.ids.Kind.{Kind}
use Rattle.racer_base.specs.declared.ids.Kind.TheVariants.{Plain, Declared, Other}
use Rattle.core_code.specs.declared.parts.FieldCore.{FieldCore}
use Rattle.core_code.specs.Core.{Core, Method}
use Rattle.core_code.specs.Kinds.{same_class}
use Rattle.core_code.specs.KindCheck.{field_at}
use Rattle.core_semantics.specs.declared.object.Object.TheVariants.{Start, Fresh}
use Rattle.core_semantics.specs.declared.object.Value.{Value}
use Rattle.core_semantics.specs.declared.object.Value.TheVariants as value
use Rattle.core_semantics.specs.State.{Frame}
use Rattle.core_semantics.specs.declared.object.StartPath.{StartPath}
use Rattle.core_semantics.specs.declared.object.StartRoot.{StartRoot}
use Rattle.core_semantics.specs.declared.object.StartRoot.TheVariants.{This, Class, Param}

-- an object of a class of the program, or such a class itself
pub data Reached : Type 0 where
  ObjectOf : (class : ClassId) → Reached
  TheClass : (class : ClassId) → Reached

-- what a place of this kind has objects of, where that is a class of the program
abbrev pub object_of : Kind → Option Reached
object_of (Declared c) = Some (ObjectOf c)
object_of Plain = None
object_of Other = None

-- a field of the class reached so far that has a class of the program as its kind; directly behind a class it is
-- static, and else it is not
abbrev pub behind_field : FieldCore → Reached → Option Reached
behind_field field (ObjectOf c) =
    if same_class c field.class && not field.is_static then object_of field.kind else None
behind_field field (TheClass c) =
    if same_class c field.class && field.is_static then object_of field.kind else None

abbrev pub behind : Core → Option Reached → FieldId → Option Reached
behind core reached f = option_and_then (λ r. option_and_then (λ field. behind_field field r) (field_at core f)) reached

-- what the roots lead to
abbrev pub Roots : Type 0
Roots = StartRoot → Option Reached

abbrev pub reached_from : Core → Roots → StartPath → Option Reached
reached_from core roots p = fold (behind core) (roots p.root) p.fields

-- those of two entries, which thread 0 and thread 1 begin with
abbrev pub parameter_root : ℕ → List Kind → Option Reached
parameter_root i kinds = option_and_then object_of (slice_get kinds i)

abbrev pub roots_of : Method → Method → Roots
roots_of m1 m2 This = Some (ObjectOf m1.class)
roots_of m1 m2 (Class c) = Some (TheClass c)
roots_of m1 m2 (Param t i) =
    if nat_eq t 0 then parameter_root i m1.parameters
    else if nat_eq t 1 then parameter_root i m2.parameters else None

-- ---- what is right for two entries

abbrev pub has_field : List FieldId → Bool
has_field [] = false
has_field (f ∷ fs) = true

-- it has a field, and leads to an object of a class of the program
abbrev pub is_right : Core → Roots → StartPath → Bool
is_right core roots p = has_field p.fields && is_some (reached_from core roots p)

-- whether a field is one of what was reached
abbrev pub has_cell : FieldCore → Reached → Bool
has_cell field (ObjectOf c) = same_class c field.class && not field.is_static
has_cell field (TheClass c) = same_class c field.class && field.is_static

-- whether a field is a cell of the object of a start path
abbrev pub is_cell : Core → Roots → StartPath → FieldId → Bool
is_cell core roots p f =
    elim (option_and_then (λ r. option_map (λ field. has_cell field r) (field_at core f)) (reached_from core roots p)) [
      | None ↦ false
      | Some is ↦ is
    ]

-- whether a value is no start object, or leads to an object of a class of the program; with a field such a start path
-- is right
abbrev pub does_lead : Core → Roots → Value → Bool
does_lead core roots value.Plain = true
does_lead core roots value.Opaque = true
does_lead core roots value.Null = true
does_lead core roots (value.Object (Start p)) = is_some (reached_from core roots p)
does_lead core roots (value.Object (Fresh n)) = true

abbrev pub do_lead : Core → Roots → Frame → Bool
do_lead core roots frame = list_all (does_lead core roots) frame.vars && list_all (does_lead core roots) frame.stack
