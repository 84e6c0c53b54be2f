-- A contract of a public call rests on this: which units have no table: two classes of one name, two fields of one
-- name in a class, too many classes or methods, the first of these in this order.
use Rattle.std.specs.Prelude.{ℕ, Bool, ◌&&◌, List, [], ◌∷◌, ◌++◌, Option, Some, None, bytes_eq, length, nat_lt, find}
use Rattle.std.specs.Prelude.{◌==◌, if◌then◌else◌, option_map}
use Rattle.std.specs.Option.{option_or}
use Rattle.racer_base.specs.declared.limits.TheConstants.{MAX_CLASSES, MAX_METHODS}
use Rattle.java_tree.specs.declared.unit.Unit.{Unit}
use Rattle.java_resolver.specs.declared.infos.ClassInfo.{ClassInfo}
use Rattle.java_resolver.specs.declared.infos.FieldInfo.{FieldInfo}
use Rattle.java_resolver.specs.declared.infos.MethodInfo.{MethodInfo}
use Rattle.java_resolver.specs.declared.fault.ResolveFault.{ResolveFault}
use Rattle.java_resolver.specs.declared.fault.ResolveFault.TheVariants as fault
use Rattle.java_resolver.specs.Declarations.{classes_of, fields_of, methods_of}

-- an element and an earlier one that is the same by a test
pub record Repeat (A : Type 0) : Type 0 where
  pub first : A
  pub second : A

-- the first element that is the same as an earlier one, and the first of these; `seen` are those before
abbrev pub repeated_after : {A : Type 0} → (A → A → Bool) → List A → List A → Option (Repeat A)
repeated_after same seen [] = None
repeated_after same seen (x ∷ xs) =
    elim (find (λ y. same y x) seen) [
      | Some y ↦ Some (record { first = y; second = x })
      | None ↦ repeated_after same (seen ++ x ∷ []) xs
    ]

abbrev pub repeated : {A : Type 0} → (A → A → Bool) → List A → Option (Repeat A)
repeated same = repeated_after same []

abbrev pub same_class : ClassInfo → ClassInfo → Bool
same_class c d = bytes_eq c.name d.name

abbrev pub same_field : FieldInfo → FieldInfo → Bool
same_field f g = f.class.0 == g.class.0 && bytes_eq f.name g.name

-- the first class whose name an earlier one has
abbrev pub duplicate_class : List ClassInfo → Option ResolveFault
duplicate_class classes =
    option_map (λ (r : Repeat ClassInfo). fault.DuplicateClass r.second.place r.first.place)
    (repeated same_class classes)

-- the first field whose name an earlier one of its class has
abbrev pub duplicate_field : List FieldInfo → Option ResolveFault
duplicate_field fields =
    option_map (λ (r : Repeat FieldInfo). fault.DuplicateField r.second.place r.first.place)
    (repeated same_field fields)

-- more classes or methods than a folder may have
abbrev pub too_many : (classes methods : ℕ) → Option ResolveFault
too_many classes methods =
    if nat_lt MAX_CLASSES classes then Some (fault.TooManyClasses classes)
    else (if nat_lt MAX_METHODS methods then Some (fault.TooManyMethods methods) else None)

-- the first of these faults that there is
abbrev pub refused : List ClassInfo → List FieldInfo → List MethodInfo → Option ResolveFault
refused classes fields methods =
    option_or (duplicate_class classes)
    (option_or (duplicate_field fields) (too_many (length classes) (length methods)))

-- the fault of these units, where they have one
abbrev pub refusal : List Unit → Option ResolveFault
refusal units = refused (classes_of units) (fields_of units) (methods_of units)
