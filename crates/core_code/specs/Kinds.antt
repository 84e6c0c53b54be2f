-- A contract of a public call rests on this: `Program::of`. The kinds of values on the operand stack, their join, and
-- what fits where.
use Rattle.std.specs.Prelude.{Bool, true, false, List, [], ◌∷◌, Option, None, Some, if◌then◌else◌, nat_eq}
use Rattle.racer_base.specs.declared.ids.ClassId.{ClassId}
use Rattle.racer_base.specs.declared.ids.Kind.{Kind}
use Rattle.racer_base.specs.declared.ids.Kind.TheVariants as types

-- a value of a primitive type; an object of a class of the program; the `Class` object of such a class; null; a value
-- that nothing is known of, which may be an object of any class; any other
pub data StackKind : Type 0 where
  Plain : StackKind
  Declared : (class : ClassId) → StackKind
  Class : (class : ClassId) → StackKind
  Null : StackKind
  Opaque : StackKind
  Other : StackKind

-- the kind of a value of a variable, a field or a result of this kind
abbrev pub kind_of : Kind → StackKind
kind_of types.Plain = Plain
kind_of (types.Declared c) = Declared c
kind_of types.Other = Other

abbrev pub same_class : ClassId → ClassId → Bool
same_class c d = nat_eq c.0 d.0

abbrev pub same_kind : StackKind → StackKind → Bool
same_kind Plain Plain = true
same_kind (Declared c) (Declared d) = same_class c d
same_kind (Class c) (Class d) = same_class c d
same_kind Null Null = true
same_kind Opaque Opaque = true
same_kind Other Other = true
same_kind _ _ = false

-- Where two ways meet equal kinds stay. Of two different ones among one `Declared c`, `Null` and `Opaque`, the first in
-- this order stays. Any other two give `Other`.
abbrev pub joined_kind : StackKind → StackKind → StackKind
joined_kind (Declared c) Null = Declared c
joined_kind (Declared c) Opaque = Declared c
joined_kind Null (Declared c) = Declared c
joined_kind Opaque (Declared c) = Declared c
joined_kind Null Opaque = Null
joined_kind Opaque Null = Null
joined_kind a b = if same_kind a b then a else Other

-- two stacks of one height, place by place; none where their heights differ
abbrev pub joined_stack : List StackKind → List StackKind → Option (List StackKind)
joined_stack [] [] = Some []
joined_stack [] (_ ∷ _) = None
joined_stack (_ ∷ _) [] = None
joined_stack (a ∷ left) (b ∷ right) =
    elim (joined_stack left right) [ None ↦ None | Some rest ↦ Some (joined_kind a b ∷ rest) ]

-- what may stand where an object of class c is wanted: such an object, null, or what nothing is known of
abbrev pub fits_class : ClassId → StackKind → Bool
fits_class c (Declared d) = same_class c d
fits_class c Null = true
fits_class c Opaque = true
fits_class c _ = false

-- what may be put into a field, set in a variable, passed or returned where this kind stands
abbrev pub fits : Kind → StackKind → Bool
fits (types.Declared c) given = fits_class c given
fits types.Plain given = true
fits types.Other given = true
