-- A contract of a public call rests on this: when two objects, and two monitors, are the same, and how a start path
-- goes on.
use Rattle.std.specs.Prelude.{Bool, true, false, ◌&&◌, [], ◌∷◌, ◌++◌, nat_eq}
use Rattle.racer_base.specs.declared.ids.FieldId.{FieldId}
use Rattle.access_paths.specs.Paths.{same_fields}
use Rattle.core_code.specs.declared.code.LockKind.{LockKind}
use Rattle.core_code.specs.declared.code.LockKind.TheVariants.{Own, Explicit}
use Rattle.core_semantics.specs.declared.answer.Holder.{Holder}
use Rattle.core_semantics.specs.declared.answer.Holder.TheVariants.{Object as Of, Outside}
use Rattle.core_semantics.specs.declared.object.StartRoot.{StartRoot}
use Rattle.core_semantics.specs.declared.object.StartRoot.TheVariants.{This, Class, Param}
use Rattle.core_semantics.specs.declared.object.StartPath.{StartPath}
use Rattle.core_semantics.specs.declared.object.Object.{Object}
use Rattle.core_semantics.specs.declared.object.Object.TheVariants.{Start, Fresh}

abbrev pub same_start_root : StartRoot → StartRoot → Bool
same_start_root This This = true
same_start_root (Class c) (Class d) = nat_eq c.0 d.0
same_start_root (Param t i) (Param u j) = nat_eq t u && nat_eq i j
same_start_root _ _ = false

abbrev pub same_start_path : StartPath → StartPath → Bool
same_start_path p q = same_start_root p.root q.root && same_fields p.fields q.fields

abbrev pub same_object : Object → Object → Bool
same_object (Start p) (Start q) = same_start_path p q
same_object (Fresh m) (Fresh n) = nat_eq m n
same_object _ _ = false

abbrev pub same_lock_kind : LockKind → LockKind → Bool
same_lock_kind Own Own = true
same_lock_kind Explicit Explicit = true
same_lock_kind _ _ = false

abbrev pub same_monitor : Holder → Holder → Bool
same_monitor (Of j a) (Of k b) = same_lock_kind j k && same_object a b
same_monitor (Outside j) (Outside k) = same_lock_kind j k
same_monitor _ _ = false

-- a root without fields
abbrev pub root_path : StartRoot → StartPath
root_path root = record { root = root; fields = [] }

-- a start path with a field at its end, however long it is
abbrev pub lengthened : StartPath → FieldId → StartPath
lengthened p f = record { root = p.root; fields = p.fields ++ f ∷ [] }
