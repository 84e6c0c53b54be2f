-- No public contract rests on this: the kinds of core code as a kinding. Start objects are of the classes that kinds
-- tell; the kinds of variables never change, and a step may be stuck.
use Rattle.std.specs.Prelude.{◌≡◌, true, List, [], ◌∷◌, Option, Some, is_some, map}
use Rattle.racer_base.specs.declared.ids.FieldId.{FieldId}
use Rattle.core_code.specs.declared.code.Op.{Op as CoreOp}
use Rattle.core_code.specs.CallFacts.{is_right_call}
use Rattle.core_code.specs.Core.{Core, Method}
use Rattle.core_code.specs.KindCheck.{kinds_after_op}
use Rattle.core_code.specs.Kinds.{StackKind, Plain, Declared, Class, Null, Opaque, Other, kind_of}
use Rattle.core_semantics.specs.declared.object.Object.{Object}
use Rattle.core_semantics.specs.declared.object.Object.TheVariants.{Start, Fresh}
use Rattle.core_semantics.specs.declared.object.Value.{Value}
use Rattle.core_semantics.specs.declared.object.Value.TheVariants as value
use Rattle.core_semantics.specs.State.{Store}
use Rattle.core_semantics.specs.Steps.{kind_of as field_kind}
use Rattle.core_semantics_kinds.specs.Kinding.{Kinding}
use Rattle.core_semantics_kinds.specs.PlaceValues.{Stand}
use Rattle.core_semantics_kinds.specs.Reached.{ObjectOf, Reached, Roots, TheClass, reached_from}

-- what a start object in a place of this kind leads to
abbrev pub IsReached : StackKind → Option Reached → Type 0
IsReached Plain r = is_some r ≡ true
IsReached (Declared c) r = r ≡ Some (ObjectOf c)
IsReached (Class c) r = r ≡ Some (TheClass c)
IsReached Null r = ⊥
IsReached Opaque r = ⊥
IsReached Other r = is_some r ≡ true

-- whether an object that was made may stand in a place of this kind
abbrev pub MayBeFresh : StackKind → Type 0
MayBeFresh Plain = Unit {0}
MayBeFresh (Declared c) = Unit {0}
MayBeFresh (Class c) = ⊥
MayBeFresh Null = ⊥
MayBeFresh Opaque = ⊥
MayBeFresh Other = Unit {0}

abbrev pub IsObjectOf : Core → Roots → StackKind → Object → Type 0
IsObjectOf core roots kind (Start p) = IsReached kind (reached_from core roots p)
IsObjectOf core roots kind (Fresh n) = MayBeFresh kind

-- a value in a place of this kind
abbrev pub IsValue : Core → Roots → StackKind → Value → Type 0
IsValue core roots kind value.Plain = Unit {0}
IsValue core roots kind value.Opaque = Unit {0}
IsValue core roots kind value.Null = Unit {0}
IsValue core roots kind (value.Object o) = IsObjectOf core roots kind o

abbrev pub AreValues : Core → Roots → List StackKind → List Value → Type 0
AreValues core roots ks vs = Stand (IsValue core roots) ks vs

pub record AreStored (core : Core) (roots : Roots) (store : Store) : Type 0 where
  pub cell : (o : Object) (f : FieldId) (v : Value) → store.cells o f ≡ Some v →
      IsValue core roots (kind_of (field_kind core f)) v

-- the variables of a method, each of its kind, and a stack of these kinds
pub record AreHeld (core : Core) (roots : Roots) (method : Method) (ks : List StackKind) (xs ys : List Value)
    : Type 0 where
  pub vars : AreValues core roots (map kind_of method.variables) xs
  pub stack : AreValues core roots ks ys

-- an operation that fits the kinds on the stack, and passes what is taken where it is a call
pub record IsAfter (core : Core) (method : Method) (op : CoreOp) (ks after : List StackKind) : Type 0 where
  pub kinded : kinds_after_op core method op ks ≡ Some after
  pub right : is_right_call core op ≡ true

pub record IsUnder (ks under : List StackKind) : Type 0 where
  pub lock : StackKind
  pub is : ks ≡ lock ∷ under

abbrev pub object_kinds : (core : Core) → Roots → Kinding core
object_kinds core roots =
    record {
      Known = List StackKind;
      IsSo = AreHeld core roots;
      at_entry = λ method. [];
      IsResult = λ method v. IsValue core roots (kind_of method.result) v;
      IsStored = AreStored core roots;
      IsAfter = IsAfter core;
      IsUnder = λ method ks under. IsUnder ks under;
      MayStick = λ why. Unit {0};
    }
