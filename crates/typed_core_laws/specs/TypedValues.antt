-- No public contract rests on this: the kinds of typed classes as a kinding, where all start paths are objects. A step is
-- stuck at a throw alone.
use Rattle.std.specs.Prelude.{◌≡◌, Bool, true, false, List, Option, None, Some, option_and_then, option_map}
use Rattle.racer_base.specs.declared.ids.ClassId.{ClassId}
use Rattle.racer_base.specs.declared.ids.FieldId.{FieldId}
use Rattle.racer_base.specs.declared.ids.MethodId.{MethodId}
use Rattle.core_code.specs.declared.code.Op.{Op as CoreOp}
use Rattle.core_code.specs.declared.code.Op.TheVariants.{New, Get, Call, Unread}
use Rattle.core_code.specs.CallFacts.{is_right_call}
use Rattle.core_code.specs.Core.{Core, Method}
use Rattle.core_semantics.specs.declared.answer.Why.TheVariants.{Thrown}
use Rattle.core_semantics.specs.declared.object.Object.{Object}
use Rattle.core_semantics.specs.declared.object.Object.TheVariants.{Start, Fresh}
use Rattle.core_semantics.specs.declared.object.StartPath.{StartPath}
use Rattle.core_semantics.specs.declared.object.StartRoot.TheVariants.{Class as StartClass}
use Rattle.core_semantics.specs.declared.object.Value.{Value}
use Rattle.core_semantics.specs.declared.object.Value.TheVariants as value
use Rattle.core_semantics.specs.Objects.{root_path}
use Rattle.core_semantics.specs.State.{Store}
use Rattle.core_semantics.specs.Steps.{kind_of as field_kind}
use Rattle.core_semantics_kinds.specs.Kinding.{Kinding}
use Rattle.core_semantics_kinds.specs.PlaceValues.{Stand}
use Rattle.core_semantics_kinds.specs.Reached.{ObjectOf, Roots, reached_from as led_from}
use Rattle.typed_core.specs.declared.kinds.TypedKind.{TypedKind}
use Rattle.typed_core.specs.declared.kinds.TypedKind.TheVariants as kind
use Rattle.typed_core.specs.declared.states.KindState.{KindState}
use Rattle.typed_core.specs.Kinds.{kind_of}
use Rattle.typed_core.specs.Needs.{is_lockable, is_met, is_refused, is_unmet, kinds_behind}
use Rattle.typed_core.specs.States.{popped, start_of}
use Rattle.typed_core.specs.Typings.{from_entries, is_among, is_read_in, reached_from, reads_field_of}

-- ---- what the entries of a class lead to

abbrev pub is_reached : Core → ClassId → MethodId → Bool
is_reached core class m = is_among (from_entries core class) m.0

-- whether a method that is reached reads a field of class c that may hold null
abbrev pub is_read : Core → ClassId → ClassId → Bool
is_read core class c = is_read_in core (reached_from core class) c

-- What an operation of a method that is reached may do, whatever the kinds before it: it makes objects of those classes
-- alone that have no such field, and calls methods that are reached and can return, and no others.
abbrev pub IsAllowed : Core → ClassId → CoreOp → Type 0
IsAllowed core class (New c) = is_read core class c ≡ false
IsAllowed core class (Get f) = (c : ClassId) → reads_field_of core c (Get f) ≡ true → is_read core class c ≡ true
IsAllowed core class (Call m n) =
    (is_reached core class m ≡ true) × (is_right_call core (Call m n) ≡ true) × (is_refused core (Call m n) ≡ false)
IsAllowed core class (Unread m n) = ⊥
IsAllowed core class op = Unit {0}

-- ---- values

-- an object of class c: a start object that leads to one, or one that was made, where such are made
abbrev pub IsObjectOf : Core → Roots → ClassId → ClassId → Object → Type 0
IsObjectOf core roots class c (Start p) = led_from core roots p ≡ Some (ObjectOf c)
IsObjectOf core roots class c (Fresh n) = is_read core class c ≡ false

abbrev pub IsOf : Core → Roots → ClassId → ClassId → Value → Type 0
IsOf core roots class c value.Plain = ⊥
IsOf core roots class c value.Opaque = ⊥
IsOf core roots class c value.Null = ⊥
IsOf core roots class c (value.Object o) = IsObjectOf core roots class c o

-- an object of whatever class, or something outside
abbrev pub IsSome : Value → Type 0
IsSome value.Plain = ⊥
IsSome value.Opaque = Unit {0}
IsSome value.Null = ⊥
IsSome (value.Object o) = Unit {0}

abbrev pub class_value : ClassId → Value
class_value c = value.Object (Start (root_path (StartClass c)))

-- a value in a place of this kind
abbrev pub IsValue : Core → Roots → ClassId → TypedKind → Value → Type 0
IsValue core roots class kind.Plain v = Unit {0}
IsValue core roots class (kind.Object c) v = IsOf core roots class c v
IsValue core roots class (kind.Class c) v = v ≡ class_value c
IsValue core roots class kind.Other v = IsSome v
IsValue core roots class kind.Unset v = Unit {0}

-- all start paths are objects, and what is stored in a field is of the field's kind
pub record AreStored (core : Core) (roots : Roots) (class : ClassId) (store : Store) : Type 0 where
  pub full : (p : StartPath) → store.heap p ≡ true
  pub cell : (o : Object) (f : FieldId) (v : Value) → store.cells o f ≡ Some v →
      IsValue core roots class (kind_of (field_kind core f)) v

-- the variables and the stack of a frame, each of its kind
pub record AreHeld (core : Core) (roots : Roots) (class : ClassId) (s : KindState) (xs ys : List Value)
    : Type 0 where
  pub vars : Stand (IsValue core roots class) s.vars xs
  pub stack : Stand (IsValue core roots class) s.stack ys

-- there is no frame where there are no kinds
abbrev pub IsSo : Core → Roots → ClassId → Option KindState → List Value → List Value → Type 0
IsSo core roots class None vars stack = ⊥
IsSo core roots class (Some s) vars stack = AreHeld core roots class s vars stack

-- ---- operations and locks

pub record IsAfter (core : Core) (class : ClassId) (method : Method) (op : CoreOp) (before after : Option KindState)
    : Type 0 where
  pub next : after ≡ option_and_then (kinds_behind core op) before
  pub met : is_unmet (is_met core method op) before ≡ false
  pub allowed : IsAllowed core class op

pub record IsUnder (before under : Option KindState) : Type 0 where
  pub next : under ≡ option_map (λ s. popped s 1) before
  pub met : is_unmet is_lockable before ≡ false

abbrev pub typed_kinds : (core : Core) → Roots → ClassId → Kinding core
typed_kinds core roots class =
    record {
      Known = Option KindState;
      IsSo = λ method. IsSo core roots class;
      at_entry = λ method. Some (start_of method);
      IsResult = λ method v. IsValue core roots class (kind_of method.result) v;
      IsStored = AreStored core roots class;
      IsAfter = IsAfter core class;
      IsUnder = λ method. IsUnder;
      MayStick = λ why. why ≡ Thrown;
    }
