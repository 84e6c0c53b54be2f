-- A contract of a public call rests on this: the kinds of values of expressions (JLS 15), and what flows to a class.
use Rattle.std.specs.Prelude.{Bool, true, false, not, if◌then◌else◌}
use Rattle.racer_base.specs.declared.ids.Kind.{Kind}
use Rattle.racer_base.specs.declared.ids.Kind.TheVariants.{Plain, Declared, Other}
use Rattle.core_code.specs.Kinds.{same_class}

-- a value of this kind, or `null`
pub data ValueKind : Type 0 where
  Of : Kind → ValueKind
  Null : ValueKind

-- of one of two values (JLS 15.25): what both are; an object of a class where the other is null
abbrev pub common_kind : ValueKind → ValueKind → ValueKind
common_kind Null Null = Null
common_kind Null (Of (Declared c)) = Of (Declared c)
common_kind (Of (Declared c)) Null = Of (Declared c)
common_kind (Of (Declared c)) (Of (Declared d)) = if same_class c d then Of (Declared c) else Of Other
common_kind (Of Plain) (Of Plain) = Of Plain
common_kind _ _ = Of Other

-- whether a value that flows to this kind is made opaque first: to a class goes an object of this class, or null
abbrev pub is_converted : Kind → ValueKind → Bool
is_converted (Declared c) (Of (Declared d)) = not (same_class c d)
is_converted (Declared c) Null = false
is_converted (Declared c) _ = true
is_converted Plain _ = false
is_converted Other _ = false
