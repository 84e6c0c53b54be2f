-- Values in places of weaker kinds: where two ways meet, and where a value fits.
use Rattle.std.proofs.Common.{◌≡◌, Bool, true, false, cond, Option, is_some}
use Rattle.std.proofs.Common.{refl, ap, subst}
use Rattle.racer_base.specs.declared.ids.ClassId.{ClassId}
use Rattle.racer_base.specs.declared.ids.Kind.{Kind}
use Rattle.racer_base.specs.declared.ids.Kind.TheVariants as types
use Rattle.core_code.specs.Core.{Core}
use Rattle.core_code.specs.Kinds.{StackKind, Plain, Declared, Class, Null, Opaque, Other, kind_of, same_kind}
use Rattle.core_code.specs.Kinds.{joined_kind, fits_class, fits}
use Rattle.core_code.proofs.KindLemmas.{equal_kinds}
use Rattle.core_semantics.specs.declared.object.Object.{Object}
use Rattle.core_semantics.specs.declared.object.Object.TheVariants.{Start, Fresh}
use Rattle.core_semantics.specs.declared.object.Value.{Value}
use Rattle.core_semantics.specs.declared.object.Value.TheVariants as value
use Rattle.core_semantics_kinds.specs.ObjectKinds.{IsObjectOf, IsReached, IsValue}
use Rattle.core_semantics_kinds.specs.Reached.{Reached, Roots, reached_from}

-- a start object in a place of any kind leads to something
pub reached-some : (k : StackKind) (r : Option Reached) → IsReached k r → is_some r ≡ true
reached-some Plain r p = p
reached-some (Declared c) r p = ap is_some p
reached-some (Class c) r p = ap is_some p
reached-some Null r p = absurd p
reached-some Opaque r p = absurd p
reached-some Other r p = p

module _ (core : Core) (roots : Roots) where
  -- objects of two kinds are objects of a third
  record Takes (a b k : StackKind) : Type 0 where
    left : (o : Object) → IsObjectOf core roots a o → IsObjectOf core roots k o
    right : (o : Object) → IsObjectOf core roots b o → IsObjectOf core roots k o

  object-other : (k : StackKind) (o : Object) → IsObjectOf core roots k o → IsObjectOf core roots Other o
  object-other k (Start p) h = reached-some k (reached_from core roots p) h
  object-other k (Fresh n) h = tt

  object-plain : (k : StackKind) (o : Object) → IsObjectOf core roots k o → IsObjectOf core roots Plain o
  object-plain k (Start p) h = reached-some k (reached_from core roots p) h
  object-plain k (Fresh n) h = tt

  no-null : {X : Type 0} (o : Object) → IsObjectOf core roots Null o → X
  no-null (Start p) h = absurd h
  no-null (Fresh n) h = absurd h

  no-opaque : {X : Type 0} (o : Object) → IsObjectOf core roots Opaque o → X
  no-opaque (Start p) h = absurd h
  no-opaque (Fresh n) h = absurd h

  -- equal kinds, or any other
  by-sameness : (a b : StackKind) (t : Bool) → (t ≡ true → a ≡ b) → Takes a b (cond t a Other)
  by-sameness a b true same =
      subst (λ (k : StackKind). Takes a k a) (same refl) (record { left = λ o h. h; right = λ o h. h })
  by-sameness a b false same = record { left = λ o h. object-other a o h; right = λ o h. object-other b o h }

  usual : (a b : StackKind) → Takes a b (cond (same_kind a b) a Other)
  usual a b = by-sameness a b (same_kind a b) (equal_kinds a b)

  -- an object of either side stands where two ways meet
  joined-takes : (a b : StackKind) → Takes a b (joined_kind a b)
  joined-takes (Declared c) Null = record { left = λ o h. h; right = λ o h. no-null o h }
  joined-takes (Declared c) Opaque = record { left = λ o h. h; right = λ o h. no-opaque o h }
  joined-takes Null (Declared d) = record { left = λ o h. no-null o h; right = λ o h. h }
  joined-takes Opaque (Declared d) = record { left = λ o h. no-opaque o h; right = λ o h. h }
  joined-takes Null Opaque = record { left = λ o h. h; right = λ o h. no-opaque o h }
  joined-takes Opaque Null = record { left = λ o h. no-opaque o h; right = λ o h. h }
  joined-takes Plain b = usual Plain b
  joined-takes (Class c) b = usual (Class c) b
  joined-takes Other b = usual Other b
  joined-takes (Declared c) Plain = usual (Declared c) Plain
  joined-takes (Declared c) (Declared d) = usual (Declared c) (Declared d)
  joined-takes (Declared c) (Class d) = usual (Declared c) (Class d)
  joined-takes (Declared c) Other = usual (Declared c) Other
  joined-takes Null Plain = usual Null Plain
  joined-takes Null (Class d) = usual Null (Class d)
  joined-takes Null Null = usual Null Null
  joined-takes Null Other = usual Null Other
  joined-takes Opaque Plain = usual Opaque Plain
  joined-takes Opaque (Class d) = usual Opaque (Class d)
  joined-takes Opaque Opaque = usual Opaque Opaque
  joined-takes Opaque Other = usual Opaque Other

  pub value-left : (a b : StackKind) (v : Value) → IsValue core roots a v → IsValue core roots (joined_kind a b) v
  value-left a b value.Plain h = tt
  value-left a b value.Opaque h = tt
  value-left a b value.Null h = tt
  value-left a b (value.Object o) h = (joined-takes a b).left o h

  pub value-right : (a b : StackKind) (v : Value) → IsValue core roots b v → IsValue core roots (joined_kind a b) v
  value-right a b value.Plain h = tt
  value-right a b value.Opaque h = tt
  value-right a b value.Null h = tt
  value-right a b (value.Object o) h = (joined-takes a b).right o h

  -- ---- what fits

  class-fits : (c : ClassId) (k : StackKind) (o : Object) → fits_class c k ≡ true → IsObjectOf core roots k o →
      IsObjectOf core roots (Declared c) o
  class-fits c Plain o e h = absurd cc
  class-fits c (Declared d) o e h =
      let same : Declared c ≡ Declared d = equal_kinds (Declared c) (Declared d) e in
      (by-sameness (Declared c) (Declared d) true (λ t. same)).right o h
  class-fits c (Class d) o e h = absurd cc
  class-fits c Null o e h = no-null o h
  class-fits c Opaque o e h = no-opaque o h
  class-fits c Other o e h = absurd cc

  object-fits : (kind : Kind) (k : StackKind) (o : Object) → fits kind k ≡ true → IsObjectOf core roots k o →
      IsObjectOf core roots (kind_of kind) o
  object-fits types.Plain k o e h = object-plain k o h
  object-fits (types.Declared c) k o e h = class-fits c k o e h
  object-fits types.Other k o e h = object-other k o h

  pub value-fits : (kind : Kind) (k : StackKind) (v : Value) → fits kind k ≡ true → IsValue core roots k v →
      IsValue core roots (kind_of kind) v
  value-fits kind k value.Plain e h = tt
  value-fits kind k value.Opaque e h = tt
  value-fits kind k value.Null e h = tt
  value-fits kind k (value.Object o) e h = object-fits kind k o e h
