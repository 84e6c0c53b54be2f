-- A contract of a public call rests on this: how two threads begin, what the next step of a thread touches, and whether
-- two threads race (JLS 17.4.1, 17.4.5).
use Rattle.std.specs.Prelude.{ℕ, suc, Bool, true, false, ◌&&◌, ◌||◌, List, [], ◌∷◌, ◌++◌, Option, None, Some}
use Rattle.std.specs.Prelude.{slice_get, if◌then◌else◌}
use Rattle.std.specs.List.{list_any}
use Rattle.std.specs.Option.{option_and_then}
use Rattle.racer_base.specs.declared.ids.FieldId.{FieldId}
use Rattle.racer_base.specs.declared.ids.Kind.{Kind}
use Rattle.racer_base.specs.declared.ids.Kind.TheVariants.{Plain as PlainKind, Declared, Other}
use Rattle.racer_base.specs.declared.ids.MethodId.{MethodId}
use Rattle.racer_base.specs.declared.ids.Place.{Place}
use Rattle.racer_base.specs.declared.ids.Touch.{Touch}
use Rattle.racer_base.specs.declared.ids.Touch.TheVariants.{Read, Write}
use Rattle.access_paths.specs.Paths.{same_field}
use Rattle.core_code.specs.declared.code.Op.{Op as CoreOp}
use Rattle.core_code.specs.declared.code.Op.TheVariants.{Get, Put}
use Rattle.core_code.specs.Core.{Core, Method}
use Rattle.core_code.specs.Calls.{method_at}
use Rattle.core_code.specs.Touches.{is_write}
use Rattle.core_semantics.specs.declared.object.Start.{Start}
use Rattle.core_semantics.specs.declared.object.Start.TheVariants.{All, Only}
use Rattle.core_semantics.specs.declared.object.StartPath.{StartPath}
use Rattle.core_semantics.specs.declared.object.StartRoot.TheVariants.{This, Param}
use Rattle.core_semantics.specs.declared.object.Object.{Object}
use Rattle.core_semantics.specs.declared.object.Object.TheVariants.{Start as StartOf}
use Rattle.core_semantics.specs.declared.object.Value.{Value}
use Rattle.core_semantics.specs.declared.object.Value.TheVariants.{Plain, Opaque, Null, Object as Ref}
use Rattle.core_semantics.specs.Objects.{root_path, same_start_path, same_object}
use Rattle.core_semantics.specs.State.{Todo, Op, Choice, Loop, Sync, Unlock, Frame, Thread, State, Store, thread_of}
use Rattle.core_semantics.specs.Steps.{entered, read, top, slot_of}

-- The beginning: two entries with one shared `this`, each with parameters of its own. Nothing is stored, and no monitor
-- is held.

abbrev pub is_in : Start → StartPath → Bool
is_in All p = true
is_in (Only paths) p = list_any (λ q. same_start_path q p) paths

-- a parameter of the entry of a thread
abbrev pub parameter : ℕ → ℕ → Kind → Value
parameter t i PlainKind = Plain
parameter t i (Declared c) = Ref (StartOf (root_path (Param t i)))
parameter t i Other = Opaque

abbrev pub parameters_from : ℕ → ℕ → List Kind → List Value
parameters_from t i [] = []
parameters_from t i (kind ∷ kinds) = parameter t i kind ∷ parameters_from t (suc i) kinds

-- what the entry of a thread is given: `this` of an instance method, and the parameters
abbrev pub given_to : ℕ → Method → List Value
given_to t m = (if m.is_static then [] else Ref (StartOf (root_path This)) ∷ []) ++ parameters_from t 0 m.parameters

-- a thread at the entry of a method; one that has ended where there is no such method
abbrev pub thread_at : Core → ℕ → MethodId → Thread
thread_at core t m =
    elim (method_at core m) [
      | None ↦ record { frames = []; locks = [] }
      | Some method ↦ record { frames = entered method (given_to t method) ∷ []; locks = [] }
    ]

abbrev pub begun : Core → MethodId → MethodId → Start → State
begun core m1 m2 start =
    record {
      store = record { heap = is_in start; cells = λ o f. None; fresh = 0 };
      first = thread_at core 0 m1;
      second = thread_at core 1 m2;
    }

-- The next step of a thread.

abbrev pub next_of : Frame → Option Todo
next_of f = slice_get f.todo 0

-- the innermost frame; none where the thread has ended
abbrev pub innermost : State → ℕ → Option Frame
innermost s t = slice_get (thread_of s t).frames 0

abbrev pub next_todo : State → ℕ → Option Todo
next_todo s t = option_and_then next_of (innermost s t)

abbrev pub is_turn : Todo → Bool
is_turn (Op place op) = false
is_turn (Choice left right) = true
is_turn (Loop body) = true
is_turn (Sync lock body) = false
is_turn Unlock = false

-- whether a thread is at a choice or a loop
abbrev pub wants_turn : State → ℕ → Bool
wants_turn s t = elim (next_todo s t) [ None ↦ false | Some todo ↦ is_turn todo ]

abbrev pub place_of : Todo → Option Place
place_of (Op place op) = Some place
place_of (Choice left right) = None
place_of (Loop body) = None
place_of (Sync lock body) = Some lock.place
place_of Unlock = None

-- the place of the operation or the lock that a thread is at
abbrev pub place : State → ℕ → Option Place
place s t = option_and_then place_of (next_todo s t)

-- an access that a thread is about to make: the object, the field, and what it does there
abbrev pub Access : Type 0
Access = Object × FieldId × Touch

abbrev pub access_of : Value → FieldId → Touch → Option Access
access_of (Ref o) f kind = Some (o, f, kind)
access_of Plain f kind = None
access_of Opaque f kind = None
access_of Null f kind = None

abbrev pub op_touch : Frame → CoreOp → Option Access
op_touch f (Get x) = access_of (top f) x Read
op_touch f (Put x) = access_of (slot_of f 1) x Write
op_touch f _ = None

abbrev pub todo_touch : Frame → Todo → Option Access
todo_touch f (Op place op) = op_touch f op
todo_touch f _ = None

abbrev pub frame_touch : Frame → Option Access
frame_touch f = option_and_then (todo_touch f) (next_of f)

-- the object and the field that the next step of a thread reads or writes
abbrev pub next_touch : State → ℕ → Option Access
next_touch s t = option_and_then frame_touch (innermost s t)

-- the value that an access reads; a write reads none
abbrev pub value_read : Core → Store → Option Access → Option Value
value_read core s None = None
value_read core s (Some (o, f, Read)) = Some (read core s o f)
value_read core s (Some (o, f, Write)) = None

-- the value that the next step of a thread reads from a field of an object
abbrev pub next_value : Core → State → ℕ → Option Value
next_value core s t = value_read core s.store (next_touch s t)

-- The race: both next steps touch one field of one object, and at least one writes it.

abbrev pub meet : Access → Access → Bool
meet (o, f, k) (p, g, l) = same_object o p && same_field f g && (is_write k || is_write l)

abbrev pub do_meet : Option Access → Option Access → Bool
do_meet (Some a) (Some b) = meet a b
do_meet _ _ = false

abbrev pub races : State → Bool
races s = do_meet (next_touch s 0) (next_touch s 1)
