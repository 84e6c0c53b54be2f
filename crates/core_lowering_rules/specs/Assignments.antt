-- A contract of a public call rests on this: what a name, a field access or an array access is stored in, and the code
-- that reads it or stores to it (JLS 15.10.3, 15.11, 15.14, 15.15, 15.26).
use Rattle.std.specs.Prelude.{ℕ, suc, [], ◌++◌, Option, Some, None, if◌then◌else◌, slice_get, true, false}
use Rattle.racer_base.specs.declared.ids.ClassId.{ClassId}
use Rattle.racer_base.specs.declared.ids.FieldId.{FieldId}
use Rattle.racer_base.specs.declared.ids.VarId.{VarId}
use Rattle.racer_base.specs.declared.ids.Kind.{Kind}
use Rattle.racer_base.specs.declared.ids.Kind.TheVariants.{Plain, Declared, Other}
use Rattle.racer_base.specs.declared.ids.Place.{Place}
use Rattle.java_tree.specs.declared.words.Ident.{Ident}
use Rattle.java_resolver.specs.declared.infos.FieldInfo.{FieldInfo}
use Rattle.java_resolver.specs.declared.scope.Meaning.{Meaning}
use Rattle.java_resolver.specs.declared.scope.Meaning.TheVariants as means
use Rattle.java_resolver.specs.Meanings.{field_named}
use Rattle.core_code.specs.declared.code.Op.TheVariants.{Push, PushClass, Dup, Drop, Get, Put, Set, Prim, Outside}
use Rattle.core_lowering_rules.specs.ValueKinds.{ValueKind, Of}
use Rattle.core_lowering_rules.specs.Context.{Context, Code, op_at, op, converted, push_this, push_own_class}
use Rattle.core_lowering_rules.specs.Context.{meaning_of}

-- a variable; a field, with its kind, the place of its name, and the code of its base; what is not the folder's, with
-- the number and the code of its operands
pub data Storage : Type 0 where
  InVariable : VarId → Kind → Storage
  InField : FieldId → Kind → (name : Place) → (base : Code) → Storage
  Elsewhere : (operands : ℕ) → Code → Storage

abbrev pub kind_in : Storage → ValueKind
kind_in (InVariable v kind) = Of kind
kind_in (InField f kind name base) = Of kind
kind_in (Elsewhere n operands) = Of Other

-- ---- what is stored where

abbrev pub field_at : Context → FieldId → Option FieldInfo
field_at context f = slice_get context.folder.fields f.0

-- a field that is named x: behind the class where it is static, and else behind an object
abbrev pub in_field : (class object : Code) → Ident → FieldId → Option FieldInfo → Storage
in_field class object x f None = Elsewhere 0 []
in_field class object x f (Some field) = InField f field.kind x.place (if field.is_static then class else object)

-- x, with this meaning
abbrev pub of_meaning : Context → Ident → Meaning → Storage
of_meaning context x (means.Variable v kind) = InVariable v kind
of_meaning context x (means.Field f) = in_field (push_own_class context) (push_this context) x f (field_at context f)
of_meaning context x (means.Class c) = Elsewhere 0 []
of_meaning context x means.Opaque = Elsewhere 0 []

abbrev pub of_name : Context → Ident → Storage
of_name context x = of_meaning context x (meaning_of context x)

-- C.x, where this static field of the class is x
abbrev pub of_class : Context → ClassId → Ident → Option FieldId → Storage
of_class context c x None = Elsewhere 0 []
of_class context c x (Some f) =
    in_field (op context (PushClass c)) (op context (PushClass c)) x f (field_at context f)

-- e.x, where e is an object of a class, and this field of the class is x
abbrev pub of_object : Context → ClassId → Code → Ident → Option FieldId → Storage
of_object context c e x None = Elsewhere 1 e
of_object context c e x (Some f) =
    in_field (e ++ op context Drop ++ op context (PushClass c)) e x f (field_at context f)

-- e.x, where e has this kind
abbrev pub of_value : Context → ValueKind → Code → Ident → Storage
of_value context (Of (Declared c)) e x = of_object context c e x (field_named context.folder.fields c false x.text)
of_value context _ e x = Elsewhere 1 e

-- e.x, where the class that e names stands first
abbrev pub selected : Context → Option ClassId → ValueKind → Code → Ident → Storage
selected context (Some c) kind e x = of_class context c x (field_named context.folder.fields c true x.text)
selected context None kind e x = of_value context kind e x

-- a[i]
abbrev pub element : Code → Code → Storage
element a i = Elsewhere 2 (a ++ i)

-- ---- what is done there

abbrev pub read : Context → Storage → Code
read context (InVariable v kind) = op context (Push v)
read context (InField f kind name base) = base ++ op_at name (Get f)
read context (Elsewhere n operands) = operands ++ op context (Outside n)

-- `= e`, where e has this kind
abbrev pub assigned : Context → Storage → ValueKind → Code → Code
assigned context (InVariable v kind) given e = e ++ converted context kind given ++ op context (Set v)
assigned context (InField f kind name base) given e = base ++ e ++ converted context kind given ++ op_at name (Put f)
assigned context (Elsewhere n operands) given e = operands ++ e ++ op context (Outside (suc n))

-- `op= e`
abbrev pub combined : Context → Storage → Code → Code
combined context (InVariable v kind) e =
    op context (Push v) ++ e ++ op context (Prim 2) ++ converted context kind (Of Plain) ++ op context (Set v)
combined context (InField f kind name base) e =
    base ++ op context Dup ++ op_at name (Get f) ++ e ++ op context (Prim 2) ++ converted context kind (Of Plain)
    ++ op_at name (Put f)
combined context (Elsewhere n operands) e = operands ++ e ++ op context (Outside (suc n))

-- `++` and `--`
abbrev pub counted : Context → Storage → Code
counted context (InVariable v kind) =
    op context (Push v) ++ op context (Prim 1) ++ converted context kind (Of Plain) ++ op context (Set v)
counted context (InField f kind name base) =
    base ++ op context Dup ++ op_at name (Get f) ++ op context (Prim 1) ++ converted context kind (Of Plain)
    ++ op_at name (Put f)
counted context (Elsewhere n operands) = operands ++ op context (Outside n)
