-- A contract of a public call rests on this: what a type means: a primitive one, a class of the folder, or another.
use Rattle.std.specs.Prelude.{ℕ, ◌&&◌, List, Option, Some, None, bytes_eq, if◌then◌else◌, option_map, ◌==◌}
use Rattle.racer_base.specs.declared.ids.ClassId.{ClassId}
use Rattle.racer_base.specs.declared.ids.Kind.{Kind}
use Rattle.racer_base.specs.declared.ids.Kind.TheVariants as kind
use Rattle.java_tree.specs.Trees.{Ty, Typed, Base, Plain, Named, no_part, part_then, Bare}
use Rattle.java_resolver.specs.declared.scope.VariableKind.{VariableKind}
use Rattle.java_resolver.specs.Firsts.{first_that}
use Rattle.java_resolver.specs.Hidden.{is_hidden}
use Rattle.java_resolver_parts.specs.LockTypes.{is_other, is_lock_type}

-- the class of this name, among the names of all classes
abbrev pub class_named : List (List ℕ) → List ℕ → Option ClassId
class_named classes name = option_map (λ n. record { 0 = n }) (first_that (λ text. bytes_eq text name) classes)

-- the same where these names mean no class
abbrev pub class_seen : (hidden classes : List (List ℕ)) → List ℕ → Option ClassId
class_seen hidden classes name = if is_hidden hidden name then None else class_named classes name

abbrev pub declared_kind : Option ClassId → Kind
declared_kind None = kind.Other
declared_kind (Some c) = kind.Declared c

-- what stands before the `[ ]`: one name without arguments is the class of this name
abbrev pub base_kind : (hidden classes : List (List ℕ)) → Base → Kind
base_kind hidden classes (Plain text) = kind.Plain
base_kind hidden classes (Named (part_then (Bare name) no_part)) = declared_kind (class_seen hidden classes name)
base_kind hidden classes _ = kind.Other

-- arrays are neither
abbrev pub kind_of : (hidden classes : List (List ℕ)) → Ty → Kind
kind_of hidden classes (Typed base arrays) = if arrays == 0 then base_kind hidden classes base else kind.Other

-- of a type of this kind, with so many `[ ]` behind the name of what is declared (JLS 8.4.1, 8.4.2, 10.2)
abbrev pub kind_with : Kind → (further : ℕ) → Kind
kind_with k further = if further == 0 then k else kind.Other

-- what is known of a variable of this type and with so many `[ ]` behind its name: one of a lock type holds a lock
abbrev pub variable_kind : (hidden classes : List (List ℕ)) → Ty → (further : ℕ) → VariableKind
variable_kind hidden classes t further =
    let k = kind_of hidden classes t in
    record { kind = kind_with k further; is_lock = further == 0 && (is_other k && is_lock_type t) }
