-- A contract of a public call rests on this: the kinds of values in typed classes, their join, and what fits where.
use Rattle.std.specs.Prelude.{Bool, true, false, ◌&&◌, List, [], ◌∷◌, if◌then◌else◌}
use Rattle.racer_base.specs.declared.ids.Kind.{Kind}
use Rattle.racer_base.specs.declared.ids.Kind.TheVariants as types
use Rattle.core_code.specs.Kinds.{same_class}
use Rattle.typed_core.specs.declared.kinds.TypedKind.{TypedKind}
use Rattle.typed_core.specs.declared.kinds.TypedKind.TheVariants.{Plain, Object, Class, Other, Unset}

-- the kind of the value of a parameter, a field or a result of this kind
abbrev pub kind_of : Kind → TypedKind
kind_of types.Plain = Plain
kind_of (types.Declared c) = Object c
kind_of types.Other = Other

abbrev pub same_kind : TypedKind → TypedKind → Bool
same_kind Plain Plain = true
same_kind (Object c) (Object d) = same_class c d
same_kind (Class c) (Class d) = same_class c d
same_kind Other Other = true
same_kind Unset Unset = true
same_kind _ _ = false

-- whether a value is something else than null and than one of a primitive type
abbrev pub is_reference : TypedKind → Bool
is_reference Plain = false
is_reference (Object c) = true
is_reference (Class c) = true
is_reference Other = true
is_reference Unset = false

-- Where two ways meet equal kinds stay. Different ones among objects, classes and others give `Other`, all else gives
-- `Unset`.
abbrev pub joined_kind : TypedKind → TypedKind → TypedKind
joined_kind a b = if same_kind a b then a else if is_reference a && is_reference b then Other else Unset

-- what may be stored in a field, passed or returned where this kind stands: an object of the class, anything that is
-- neither null nor of a primitive type, or anything
abbrev pub fits : Kind → TypedKind → Bool
fits (types.Declared c) given = same_kind (Object c) given
fits types.Other given = is_reference given
fits types.Plain given = true

-- values in order fit kinds in order, and there are as many
abbrev pub do_fit : List Kind → List TypedKind → Bool
do_fit [] [] = true
do_fit (kind ∷ kinds) (given ∷ others) = fits kind given && do_fit kinds others
do_fit _ _ = false
