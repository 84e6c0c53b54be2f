-- A contract of a public call rests on this: an order of objects, in which cells and heaps are kept, and of monitors.
use Rattle.std.specs.Prelude.{ℕ, List, [], ◌∷◌, length, map}
use Rattle.std.specs.Ordering.{nat_cmp}
use Rattle.std.specs.declared.cmp.Ordering.{Ordering}
use Rattle.std.specs.Cmp.Lexicographic.{slice_cmp}
use Rattle.racer_base.specs.declared.ids.FieldId.{FieldId}
use Rattle.core_code.specs.declared.code.LockKind.{LockKind}
use Rattle.core_semantics_monitors.specs.Kinds.{lock_kind_number}
use Rattle.core_semantics.specs.declared.answer.Holder.{Holder}
use Rattle.core_semantics.specs.declared.answer.Holder.TheVariants.{Object as Of, Outside}
use Rattle.core_semantics.specs.declared.object.StartRoot.{StartRoot}
use Rattle.core_semantics.specs.declared.object.StartRoot.TheVariants.{This, Class, Param}
use Rattle.core_semantics.specs.declared.object.Object.{Object}
use Rattle.core_semantics.specs.declared.object.Object.TheVariants.{Start, Fresh}

abbrev pub root_form : StartRoot → ℕ
root_form This = 0
root_form (Class c) = 1
root_form (Param t i) = 2

abbrev pub root_first : StartRoot → ℕ
root_first This = 0
root_first (Class c) = c.0
root_first (Param t i) = t

abbrev pub root_second : StartRoot → ℕ
root_second This = 0
root_second (Class c) = 0
root_second (Param t i) = i

-- the number of the form of an object
abbrev pub object_form : Object → ℕ
object_form (Start p) = root_form p.root
object_form (Fresh n) = 3

-- the numbers in an object, 0 where it has none
abbrev pub first_number : Object → ℕ
first_number (Start p) = root_first p.root
first_number (Fresh n) = n

abbrev pub second_number : Object → ℕ
second_number (Start p) = root_second p.root
second_number (Fresh n) = 0

abbrev pub object_fields : Object → List FieldId
object_fields (Start p) = p.fields
object_fields (Fresh n) = []

-- the numbers of an object, how many fields it has, and then the fields' numbers: so two objects on one way by fields,
-- of which one is further, differ before their fields are looked at
abbrev pub object_key : Object → List ℕ
object_key o =
    object_form o ∷ first_number o ∷ second_number o ∷ length (object_fields o)
    ∷ map (λ (f : FieldId). f.0) (object_fields o)

abbrev pub object_cmp : Object → Object → Ordering
object_cmp a b = slice_cmp nat_cmp (object_key a) (object_key b)

abbrev pub lock_kind : Holder → LockKind
lock_kind (Of kind o) = kind
lock_kind (Outside kind) = kind

-- what has the monitor: all opaque values, and then objects
abbrev pub owner_key : Holder → List ℕ
owner_key (Of kind o) = object_key o
owner_key (Outside kind) = []

abbrev pub owner_cmp : Holder → Holder → Ordering
owner_cmp a b = slice_cmp nat_cmp (owner_key a) (owner_key b)

-- the kind, and then what has the monitor
abbrev pub holder_key : Holder → List ℕ
holder_key m = lock_kind_number (lock_kind m) ∷ owner_key m

abbrev pub holder_cmp : Holder → Holder → Ordering
holder_cmp a b = slice_cmp nat_cmp (holder_key a) (holder_key b)
