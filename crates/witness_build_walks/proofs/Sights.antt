-- What is seen of a step before it is made.
use Rattle.std.proofs.Common.{◌≡◌, ℕ, Bool, true, false, cond, [], ◌∷◌, Option, None, Some, refl}
use Rattle.std.specs.Option.{option_and_then}
use Rattle.racer_base.specs.declared.ids.FieldId.{FieldId}
use Rattle.racer_base.specs.declared.ids.Touch.TheVariants.{Read, Write}
use Rattle.core_code.specs.declared.code.Op.{Op as CoreOp}
use Rattle.core_code.specs.declared.code.Op.TheVariants.{Get, New, Put}
use Rattle.core_code.specs.Core.{Core}
use Rattle.core_semantics.specs.declared.changes.Sight.{Sight}
use Rattle.core_semantics.specs.declared.object.Object.{Object}
use Rattle.core_semantics.specs.declared.object.Value.{Value}
use Rattle.core_semantics.specs.declared.object.Value.TheVariants.{Plain, Opaque, Null, Object as Ref}
use Rattle.core_semantics.specs.Changes.{Change, Quiet, field_change, frame_change, get_sight, is_plain_kind}
use Rattle.core_semantics.specs.Changes.{next_sight, op_change, op_sight, quiet_sight, step_change, step_looks}
use Rattle.core_semantics.specs.Changes.{todo_change, todo_sight}
use Rattle.core_semantics.specs.Changes.{touch_looks}
use Rattle.core_semantics.specs.Runs.{Access, access_of, frame_touch, innermost, is_turn, next_of, next_value, op_touch}
use Rattle.core_semantics.specs.Runs.{todo_touch, value_read, wants_turn}
use Rattle.core_semantics.specs.State.{Frame, State, Store, Todo, Op, Choice, Loop, Sync, Unlock}
use Rattle.core_semantics.specs.Steps.{kind_of, slot_of, top}
use Rattle.witness_build_walks.specs.Walks.{fields_of, listed}

-- what a step is seen to do is what it does
record Tells (core : Core) (store : Store) (turns : Bool) (touch : Option Access) (change : Change)
    (sight : Sight) : Type 0 where
  takes_turn : sight.takes_turn ≡ turns
  look : listed sight.look ≡ fields_of (touch_looks core touch)
  change_is : sight.change ≡ field_change change
  reads : sight.reads ≡ false → value_read core store touch ≡ None

abbrev Quietly : Core → Store → Bool → Option Access → Type 0
Quietly core store turns touch = Tells core store turns touch Quiet (quiet_sight turns)

quietly : (core : Core) (store : Store) (turns : Bool) → Quietly core store turns None
quietly core store turns = record { takes_turn = refl; look = refl; change_is = refl; reads = λ e. refl }

looked : (f : FieldId) (o : Object) (b : Bool) →
    listed (cond b None (Some f)) ≡ fields_of (cond b [] ((o, f) ∷ []))
looked f o true = refl
looked f o false = refl

getting : (core : Core) (store : Store) (x : FieldId) (v : Value) →
    Tells core store false (access_of v x Read) Quiet (get_sight core x v)
getting core store x (Ref o) =
    record {
      takes_turn = refl;
      look = looked x o (is_plain_kind (kind_of core x));
      change_is = refl;
      reads = λ e. absurd (let never : true ≡ false = e in cc);
    }
getting core store x Plain = quietly core store false
getting core store x Opaque = quietly core store false
getting core store x Null = quietly core store false

written-looks : (core : Core) (x : FieldId) (v : Value) → [] ≡ fields_of (touch_looks core (access_of v x Write))
written-looks core x (Ref o) = refl
written-looks core x Plain = refl
written-looks core x Opaque = refl
written-looks core x Null = refl

written-reads : (core : Core) (store : Store) (x : FieldId) (v : Value) →
    value_read core store (access_of v x Write) ≡ None
written-reads core store x (Ref o) = refl
written-reads core store x Plain = refl
written-reads core store x Opaque = refl
written-reads core store x Null = refl

operating : (core : Core) (store : Store) (f : Frame) (op : CoreOp) →
    Tells core store false (op_touch f op) (op_change core f op) (op_sight core f op)
operating core store f (Get x) = getting core store x (top f)
operating core store f (Put x) =
    record {
      takes_turn = refl;
      look = written-looks core x (slot_of f 1);
      change_is = refl;
      reads = λ e. written-reads core store x (slot_of f 1);
    }
operating core store f (New c) = record { takes_turn = refl; look = refl; change_is = refl; reads = λ e. refl }
operating core store f _ = quietly core store false

abbrev turns_at : Option Todo → Bool
turns_at o = elim o as (λ _. Bool) [ None ↦ false | Some todo ↦ is_turn todo ]

abbrev change_at : Core → Frame → Option Todo → Change
change_at core f o = elim o as (λ _. Change) [ None ↦ Quiet | Some todo ↦ todo_change core f todo ]

abbrev sight_at : Core → Frame → Option Todo → Sight
sight_at core f o = elim o as (λ _. Sight) [ None ↦ quiet_sight false | Some todo ↦ todo_sight core f todo ]

doing : (core : Core) (store : Store) (f : Frame) (o : Option Todo) →
    Tells core store (turns_at o) (option_and_then (todo_touch f) o) (change_at core f o) (sight_at core f o)
doing core store f None = quietly core store false
doing core store f (Some (Op place op)) = operating core store f op
doing core store f (Some (Choice left right)) = quietly core store true
doing core store f (Some (Loop body)) = quietly core store true
doing core store f (Some (Sync lock body)) = quietly core store false
doing core store f (Some Unlock) = quietly core store false

abbrev sight_in : Core → Option Frame → Sight
sight_in core o =
    elim o as (λ _. Sight) [ None ↦ quiet_sight false | Some f ↦ sight_at core f (next_of f) ]

within : (core : Core) (store : Store) (o : Option Frame) →
    Tells core store (turns_at (option_and_then next_of o)) (option_and_then frame_touch o) (frame_change core o)
    (sight_in core o)
within core store None = quietly core store false
within core store (Some f) = doing core store f (next_of f)

sees : (core : Core) (s : State) (t : ℕ) → Tells core s.store (turns_at (option_and_then next_of (innermost s t)))
    (option_and_then frame_touch (innermost s t)) (frame_change core (innermost s t)) (next_sight core s t)
sees core s t = within core s.store (innermost s t)

pub turn-seen : (core : Core) (s : State) (t : ℕ) → (next_sight core s t).takes_turn ≡ wants_turn s t
turn-seen core s t = (sees core s t).takes_turn

pub look-seen : (core : Core) (s : State) (t : ℕ) → listed (next_sight core s t).look ≡ fields_of (step_looks core s t)
look-seen core s t = (sees core s t).look

pub change-seen : (core : Core) (s : State) (t : ℕ) → (next_sight core s t).change ≡ field_change (step_change core s t)
change-seen core s t = (sees core s t).change_is

pub none-read : (core : Core) (s : State) (t : ℕ) → (next_sight core s t).reads ≡ false → next_value core s t ≡ None
none-read core s t = (sees core s t).reads
