-- A contract of a public call rests on this: what a simple name means at a place (JLS 6.4.1, 6.5), and which method
-- of a class is called by a name and a number of arguments.
use Rattle.std.specs.Prelude.{ℕ, Bool, false, not, ◌&&◌, ◌||◌, List, [], ◌∷◌, Option, Some, None, bytes_eq, length}
use Rattle.std.specs.Prelude.{◌==◌, option_map, option_and_then, nat_lt, slice_get, if◌then◌else◌}
use Rattle.std.specs.Option.{option_or}
use Rattle.racer_base.specs.declared.ids.ClassId.{ClassId}
use Rattle.racer_base.specs.declared.ids.FieldId.{FieldId}
use Rattle.racer_base.specs.declared.ids.Kind.{Kind}
use Rattle.racer_base.specs.declared.ids.MethodId.{MethodId}
use Rattle.java_resolver.specs.declared.infos.ClassInfo.{ClassInfo}
use Rattle.java_resolver.specs.declared.infos.FieldInfo.{FieldInfo}
use Rattle.java_resolver.specs.declared.infos.MethodInfo.{MethodInfo}
use Rattle.java_resolver.specs.declared.scope.Scope.{Scope}
use Rattle.java_resolver.specs.declared.scope.ScopeVariable.{ScopeVariable}
use Rattle.java_resolver.specs.declared.scope.Meaning.{Meaning}
use Rattle.java_resolver.specs.declared.scope.Meaning.TheVariants.{Variable, Field, Class, Opaque}
use Rattle.java_resolver.specs.Firsts.{first_that, only_that, last_that}
use Rattle.java_resolver.specs.TypeKinds.{class_seen}
use Rattle.java_resolver.specs.Declarations.{class_names}

-- ---- simple names

-- the innermost variable of this name; of two parameters of one name the last
abbrev pub variable_named : Scope → List ℕ → Option ScopeVariable
variable_named scope name = last_that (λ (v : ScopeVariable). bytes_eq v.name name) scope.variables

-- a field of this class; in a static method a static one
abbrev pub is_seen : ClassId → (in_static : Bool) → List ℕ → FieldInfo → Bool
is_seen c in_static name f = (not in_static || f.is_static) && (f.class.0 == c.0 && bytes_eq f.name name)

abbrev pub field_named : List FieldInfo → ClassId → (in_static : Bool) → List ℕ → Option FieldId
field_named fields c in_static name =
    option_map (λ n. record { 0 = n }) (first_that (is_seen c in_static name) fields)

-- the first of a local or parameter, a field, a class; else nothing of the folder
abbrev pub meaning : List ClassInfo → List FieldInfo → Scope → List ℕ → Meaning
meaning classes fields scope name =
    elim (variable_named scope name) [
      | Some v ↦ Variable v.id v.kind
      | None ↦
          elim (field_named fields scope.class scope.is_static name) [
            | Some f ↦ Field f
            | None ↦
                elim (class_seen scope.hidden (class_names classes) name) [ Some c ↦ Class c | None ↦ Opaque ]
          ]
    ]

-- ---- methods

abbrev pub is_called : ClassId → List ℕ → ℕ → MethodInfo → Bool
is_called c name count m = (m.class.0 == c.0 && length m.parameters == count) && bytes_eq m.name name

-- the method of a class by its name and its number of parameters, the first of two
abbrev pub exactly_found : List MethodInfo → ClassId → List ℕ → ℕ → Option MethodId
exactly_found methods c name count =
    option_map (λ n. record { 0 = n }) (first_that (is_called c name count) methods)

-- whether a method of a class has this name, and its last parameter takes any number of arguments
abbrev pub is_called_with_any : ClassId → List ℕ → MethodInfo → Bool
is_called_with_any c name m = m.any_number && (m.class.0 == c.0 && bytes_eq m.name name)

-- whether there are as many arguments as these parameters but the last at least
abbrev pub are_enough : ℕ → List Kind → Bool
are_enough count [] = false
are_enough count (k ∷ ks) = not (nat_lt count (length ks))

abbrev pub is_enough : ℕ → Option MethodInfo → Bool
is_enough count None = false
is_enough count (Some m) = are_enough count m.parameters

-- where so many arguments are enough for it
abbrev pub if_enough : List MethodInfo → ℕ → ℕ → Option MethodId
if_enough methods count n =
    if is_enough count (slice_get methods n) then Some (record { 0 = n }) else None

-- the only method of a class with this name whose last parameter takes any number of arguments (JLS 8.4.1, 15.12.2.4)
abbrev pub found_with_any : List MethodInfo → ClassId → List ℕ → ℕ → Option MethodId
found_with_any methods c name count =
    option_and_then (if_enough methods count) (only_that (is_called_with_any c name) methods)

-- the method of a class that a call of this name with so many arguments means
abbrev pub found : List MethodInfo → ClassId → List ℕ → ℕ → Option MethodId
found methods c name count =
    option_or (exactly_found methods c name count) (found_with_any methods c name count)
