-- A contract of a public call rests on this: what the next step of a thread may change of what both threads share, and
-- which field it reads there.
use Rattle.std.specs.Prelude.{ℕ, Bool, true, false, List, [], ◌∷◌, Option, None, Some, slice_get, if◌then◌else◌}
use Rattle.racer_base.specs.declared.ids.FieldId.{FieldId}
use Rattle.racer_base.specs.declared.ids.Kind.{Kind}
use Rattle.racer_base.specs.declared.ids.Kind.TheVariants.{Plain as PlainKind, Declared, Other}
use Rattle.racer_base.specs.declared.ids.Touch.TheVariants.{Read, Write}
use Rattle.core_code.specs.declared.code.Op.{Op as CoreOp}
use Rattle.core_code.specs.declared.code.Op.TheVariants.{Get, New, Put}
use Rattle.core_code.specs.Core.{Core}
use Rattle.core_semantics.specs.declared.changes.FieldChange.{FieldChange}
use Rattle.core_semantics.specs.declared.changes.FieldChange.TheVariants as code
use Rattle.core_semantics.specs.declared.changes.Sight.{Sight}
use Rattle.core_semantics.specs.declared.object.Object.{Object}
use Rattle.core_semantics.specs.declared.object.Value.{Value}
use Rattle.core_semantics.specs.declared.object.Value.TheVariants.{Plain, Opaque, Null, Object as Ref}
use Rattle.core_semantics.specs.Runs.{Access, innermost, is_turn, next_of, next_touch}
use Rattle.core_semantics.specs.State.{Frame, State, Todo, Op, thread_of}
use Rattle.core_semantics.specs.Steps.{kind_of, slot_of, top}

abbrev pub is_plain_kind : Kind → Bool
is_plain_kind PlainKind = true
is_plain_kind (Declared c) = false
is_plain_kind Other = false

abbrev pub is_plain : Value → Bool
is_plain Plain = true
is_plain Opaque = false
is_plain Null = false
is_plain (Ref o) = false

-- what a step may change: nothing, a field, or anything
pub data Change : Type 0 where
  Quiet : Change
  Stores : (object : Object) (field : FieldId) → Change
  Loud : Change

-- a primitive value in a field of a primitive type changes nothing, since such a field reads as such a value anyway
abbrev pub stored_in : Core → FieldId → Value → Value → Change
stored_in core f v (Ref o) =
    if is_plain_kind (kind_of core f) then (if is_plain v then Quiet else Loud) else Stores o f
stored_in core f v _ = Quiet

abbrev pub op_change : Core → Frame → CoreOp → Change
op_change core f (Put x) = stored_in core x (top f) (slot_of f 1)
op_change core f (New c) = Loud
op_change core f _ = Quiet

abbrev pub todo_change : Core → Frame → Todo → Change
todo_change core f (Op place op) = op_change core f op
todo_change core f _ = Quiet

abbrev pub running_change : Core → Frame → Change
running_change core f = elim (next_of f) [ None ↦ Quiet | Some todo ↦ todo_change core f todo ]

abbrev pub frame_change : Core → Option Frame → Change
frame_change core None = Quiet
frame_change core (Some f) = running_change core f

-- what the next step of a thread changes
abbrev pub step_change : Core → State → ℕ → Change
step_change core s t = frame_change core (slice_get (thread_of s t).frames 0)

-- a field of an object
abbrev pub Spot : Type 0
Spot = Object × FieldId

abbrev pub touch_looks : Core → Option Access → List Spot
touch_looks core None = []
touch_looks core (Some (o, f, Read)) = if is_plain_kind (kind_of core f) then [] else (o, f) ∷ []
touch_looks core (Some (o, f, Write)) = []

-- what the next step of a thread reads, but for fields of primitive types
abbrev pub step_looks : Core → State → ℕ → List Spot
step_looks core s t = touch_looks core (next_touch s t)

-- the same by fields alone
abbrev pub field_change : Change → FieldChange
field_change Quiet = code.Nothing
field_change (Stores o f) = code.Field f
field_change Loud = code.Anything

-- what is seen of a step before it is made

abbrev pub quiet_sight : Bool → Sight
quiet_sight takes_turn = record { takes_turn = takes_turn; reads = false; look = None; change = code.Nothing }

abbrev pub changing_sight : FieldChange → Sight
changing_sight change = record { takes_turn = false; reads = false; look = None; change = change }

-- reading a field of what a value is
abbrev pub get_sight : Core → FieldId → Value → Sight
get_sight core f (Ref o) =
    record {
      takes_turn = false;
      reads = true;
      look = if is_plain_kind (kind_of core f) then None else Some f;
      change = code.Nothing;
    }
get_sight core f _ = quiet_sight false

abbrev pub op_sight : Core → Frame → CoreOp → Sight
op_sight core f (Get x) = get_sight core x (top f)
op_sight core f (Put x) = changing_sight (field_change (stored_in core x (top f) (slot_of f 1)))
op_sight core f (New c) = changing_sight code.Anything
op_sight core f _ = quiet_sight false

abbrev pub todo_sight : Core → Frame → Todo → Sight
todo_sight core f (Op place op) = op_sight core f op
todo_sight core f todo = quiet_sight (is_turn todo)

abbrev pub frame_sight : Core → Frame → Sight
frame_sight core f = elim (next_of f) [ None ↦ quiet_sight false | Some todo ↦ todo_sight core f todo ]

abbrev pub next_sight : Core → State → ℕ → Sight
next_sight core s t = elim (innermost s t) [ None ↦ quiet_sight false | Some f ↦ frame_sight core f ]
