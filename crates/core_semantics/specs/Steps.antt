-- A contract of a public call rests on this: one step of a thread, a row an operation (JLS 4.12.5, 14.19, 15.11,
-- 15.12.4, 17.1).
use Rattle.std.specs.Prelude.{ℕ, suc, ◌-◌, Bool, ◌&&◌, List, [], ◌∷◌, ◌++◌, None, Some}
use Rattle.std.specs.Prelude.{drop, length, map, nat_lt, replicate, reverse, slice_index_or, slice_set}
use Rattle.std.specs.Prelude.{Option, take, if◌then◌else◌, Result, Ok, Err}
use Rattle.std.specs.List.{list_any}
use Rattle.racer_base.specs.declared.ids.FieldId.{FieldId}
use Rattle.racer_base.specs.declared.ids.MethodId.{MethodId}
use Rattle.racer_base.specs.declared.ids.VarId.{VarId}
use Rattle.racer_base.specs.declared.ids.Kind.{Kind}
use Rattle.racer_base.specs.declared.ids.Kind.TheVariants.{Plain as PlainKind, Declared, Other}
use Rattle.access_paths.specs.Paths.{same_field}
use Rattle.core_code.specs.declared.code.LockKind.{LockKind}
use Rattle.core_code.specs.declared.code.Op.{Op as CoreOp}
use Rattle.core_code.specs.declared.code.Op.TheVariants.{Push, PushClass, PushPrim, PushNull, New, Dup, Drop, Get, Put}
use Rattle.core_code.specs.declared.code.Op.TheVariants.{Set, Prim, Outside, Call, Ret, Throw}
use Rattle.core_code.specs.declared.parts.FieldCore.{FieldCore}
use Rattle.core_code.specs.Tree.{Tree, is_return}
use Rattle.core_code.specs.Core.{Core, Method}
use Rattle.core_code.specs.Calls.{method_at}
use Rattle.core_semantics.specs.declared.answer.Holder.{Holder}
use Rattle.core_semantics.specs.declared.answer.Holder.TheVariants.{Object as Of, Outside as AllOpaque}
use Rattle.core_semantics.specs.declared.answer.Turn.{Turn}
use Rattle.core_semantics.specs.declared.answer.Turn.TheVariants.{Left, Right}
use Rattle.core_semantics.specs.declared.answer.Why.{Why}
use Rattle.core_semantics.specs.declared.answer.Why.TheVariants.{NullBase, OpaqueBase, PlainBase, UnreadCall, Thrown}
use Rattle.core_semantics.specs.declared.object.StartPath.{StartPath}
use Rattle.core_semantics.specs.declared.object.StartRoot.TheVariants.{Class}
use Rattle.core_semantics.specs.declared.object.Object.{Object}
use Rattle.core_semantics.specs.declared.object.Object.TheVariants.{Start, Fresh}
use Rattle.core_semantics.specs.declared.object.Value.{Value}
use Rattle.core_semantics.specs.declared.object.Value.TheVariants.{Plain, Opaque, Null, Object as Ref}
use Rattle.core_semantics.specs.Objects.{lengthened, root_path, same_monitor, same_object}
use Rattle.core_semantics.specs.State.{Todo, Op, Choice, Loop, Sync, Unlock, before, Frame, Thread, Store, State}
use Rattle.core_semantics.specs.State.{thread_of, other_of, with_thread}

-- what comes of a step: what is so after it; or why it cannot be made; or the monitor that the other thread holds; or
-- that the thread has ended
pub data Next (X : Type 0) : Type 0 where
  Goes : (next : X) → Next X
  Sticks : (why : Why) → Next X
  Waits : (monitor : Holder) → Next X
  Ends : Next X

-- what both threads share, and the innermost frame of a thread
pub record Inner : Type 0 where
  pub store : Store
  pub frame : Frame

-- the same with the thread's other frames, and the monitors that it holds
pub record Spot : Type 0 where
  pub store : Store
  pub frame : Frame
  pub callers : List Frame
  pub locks : List Holder

-- the same of a thread that may have ended
pub record After : Type 0 where
  pub store : Store
  pub thread : Thread

abbrev pub inner : Spot → Inner
inner s = record { store = s.store; frame = s.frame }

abbrev pub with_inner : Spot → Inner → Spot
with_inner s i = record { store = i.store; frame = i.frame; callers = s.callers; locks = s.locks }

abbrev pub after : Spot → After
after s = record { store = s.store; thread = record { frames = s.frame ∷ s.callers; locks = s.locks } }

-- the same step, seen in what it is a part of
abbrev pub within : {X Y : Type 0} → (X → Y) → Next X → Next Y
within whole (Goes next) = Goes (whole next)
within whole (Sticks why) = Sticks why
within whole (Waits monitor) = Waits monitor
within whole Ends = Ends

-- the value at a place of the stack, counted from its top
abbrev pub slot_of : Frame → ℕ → Value
slot_of f n = slice_index_or f.stack n Null

abbrev pub top : Frame → Value
top f = slot_of f 0

-- so many values popped
abbrev pub popped : Frame → ℕ → Frame
popped f n = record f { stack = drop n f.stack }

-- so many values popped, and then one pushed
abbrev pub replaced : Frame → ℕ → Value → Frame
replaced f n v = record f { stack = v ∷ drop n f.stack }

-- the object that a value is, or why there is none
abbrev pub base_of : Value → Result Object Why
base_of Plain = Err PlainBase
base_of Opaque = Err OpaqueBase
base_of Null = Err NullBase
base_of (Ref o) = Ok o

-- why there is none, where there is none
abbrev pub reason : Result Object Why → Option Why
reason (Ok o) = None
reason (Err why) = Some why

abbrev pub on_base : {X : Type 0} → Result Object Why → (Object → Next X) → Next X
on_base (Ok o) next = next o
on_base (Err why) next = Sticks why

-- what comes then with the object that a value is; no step where it is none
abbrev pub on_object : {X : Type 0} → Value → (Object → Next X) → Next X
on_object v next = on_base (base_of v) next

-- What is read and stored.

abbrev pub kind_of : Core → FieldId → Kind
kind_of core f = slice_index_or (map (λ (field : FieldCore). field.kind) core.fields) f.0 Other

-- what a field of this kind of an object holds before anything is stored there
abbrev pub unstored : (StartPath → Bool) → Kind → Object → FieldId → Value
unstored heap PlainKind o f = Plain
unstored heap Other (Start p) f = Opaque
unstored heap (Declared c) (Start p) f = if heap (lengthened p f) then Ref (Start (lengthened p f)) else Null
unstored heap Other (Fresh n) f = Null
unstored heap (Declared c) (Fresh n) f = Null

abbrev pub read : Core → Store → Object → FieldId → Value
read core s o f = elim (s.cells o f) [ None ↦ unstored s.heap (kind_of core f) o f | Some v ↦ v ]

abbrev pub written : Store → Object → FieldId → Value → Store
written s o f v =
    record s { cells = λ p g. if same_object o p && same_field f g then Some v else s.cells p g }

-- Operations in one frame. What the frame has still to do is what comes after the operation.

abbrev pub going : Inner → Frame → Next Inner
going i frame = Goes (record i { frame = frame })

-- a fresh object is pushed
abbrev pub made : Inner → Next Inner
made i =
    Goes (record {
      store = record i.store { fresh = suc i.store.fresh };
      frame = replaced i.frame 0 (Ref (Fresh i.store.fresh));
    })

-- the value on the stack's top is stored in a field of the object under it, and stays
abbrev pub put : Inner → FieldId → Object → Next Inner
put i f o =
    Goes (record { store = written i.store o f (top i.frame); frame = replaced i.frame 2 (top i.frame) })

abbrev pub put_on : Inner → FieldId → Next Inner
put_on i f = on_object (slot_of i.frame 1) (put i f)

abbrev pub got : Core → Inner → FieldId → Next Inner
got core i f = on_object (top i.frame) (λ o. going i (replaced i.frame 1 (read core i.store o f)))

abbrev pub with_var : Frame → VarId → Frame
with_var f v = record f { vars = slice_set f.vars v.0 (top f) }

-- Calls of analysed methods and returns are no operations in one frame.
abbrev pub inner_step : Core → Inner → CoreOp → Next Inner
inner_step core i (Push v) = going i (replaced i.frame 0 (slice_index_or i.frame.vars v.0 Null))
inner_step core i (PushClass c) = going i (replaced i.frame 0 (Ref (Start (root_path (Class c)))))
inner_step core i PushPrim = going i (replaced i.frame 0 Plain)
inner_step core i PushNull = going i (replaced i.frame 0 Null)
inner_step core i (New c) = made i
inner_step core i Dup = going i (replaced i.frame 0 (top i.frame))
inner_step core i Drop = going i (popped i.frame 1)
inner_step core i (Get f) = got core i f
inner_step core i (Put f) = put_on i f
inner_step core i (Set v) = going i (with_var i.frame v)
inner_step core i (Prim n) = going i (replaced i.frame n Plain)
inner_step core i (Outside n) = going i (replaced i.frame n Opaque)
inner_step core i Throw = Sticks Thrown
inner_step core i _ = Sticks UnreadCall

-- Calls and returns.

-- the values that a call passes, in order
abbrev pub passed_from : Frame → ℕ → List Value
passed_from f n = reverse (take n f.stack)

-- the frame of a method that is called with these values: its locals are null
abbrev pub entered : Method → List Value → Frame
entered method passed =
    record {
      vars = passed ++ replicate (length method.variables - length passed) Null;
      stack = [];
      todo = before method.code [];
      locked = 0;
    }

abbrev pub entering : Spot → Method → ℕ → Next After
entering s method n =
    Goes (after (record s {
      frame = entered method (passed_from s.frame n);
      callers = popped s.frame n ∷ s.callers;
    }))

abbrev pub called_method : Spot → Method → ℕ → Next After
called_method s method n =
    if method.is_static
    then entering s method n
    else on_object (slice_index_or (passed_from s.frame n) 0 Null) (λ o. entering s method n)

abbrev pub called : Core → Spot → MethodId → ℕ → Next After
called core s m n = elim (method_at core m) [ None ↦ Sticks UnreadCall | Some method ↦ called_method s method n ]

-- a thread that has ended
abbrev pub ended_with : Store → List Holder → After
ended_with store locks = record { store = store; thread = record { frames = []; locks = locks } }

-- the frame ends, and its value goes to its caller
abbrev pub returned : Spot → Next After
returned s =
    elim s.callers [
      | [] ↦ Goes (ended_with s.store s.locks)
      | ◌∷◌ caller callers ↦ Goes (after (record s { frame = replaced caller 0 (top s.frame); callers = callers }))
    ]

abbrev pub op_step : Core → Spot → CoreOp → Next After
op_step core s (Call m n) = called core s m n
op_step core s Ret = returned s
op_step core s op = within (λ i. after (with_inner s i)) (inner_step core (inner s) op)

-- Locks. What both threads share does not change.

-- the innermost monitor is unlocked
abbrev pub unlocked : Spot → Spot
unlocked s = record s { frame = record s.frame { locked = s.frame.locked - 1 }; locks = drop 1 s.locks }

-- a monitor is locked, and the body is done before it is unlocked
abbrev pub with_lock : Spot → Tree → Holder → Spot
with_lock s body monitor =
    record s {
      frame =
          record s.frame {
            stack = drop 1 s.frame.stack;
            todo = before body (Unlock ∷ s.frame.todo);
            locked = suc s.frame.locked;
          };
      locks = monitor ∷ s.locks;
    }

-- the same, unless the other thread holds the monitor
abbrev pub locking : List Holder → Spot → Tree → Holder → Next After
locking others s body monitor =
    if list_any (λ held. same_monitor held monitor) others
    then Waits monitor
    else Goes (after (with_lock s body monitor))

-- the monitor of this kind of a value, or why it has none: all opaque values share one
abbrev pub monitor_of : LockKind → Value → Result Holder Why
monitor_of kind Plain = Err PlainBase
monitor_of kind Null = Err NullBase
monitor_of kind Opaque = Ok (AllOpaque kind)
monitor_of kind (Ref o) = Ok (Of kind o)

abbrev pub lock_with : List Holder → Spot → Tree → Result Holder Why → Next After
lock_with others s body (Ok monitor) = locking others s body monitor
lock_with others s body (Err why) = Sticks why

abbrev pub lock_step : List Holder → Spot → LockKind → Tree → Value → Next After
lock_step others s kind body v = lock_with others s body (monitor_of kind v)

-- One step: an operation, one turn at a choice or a loop, one lock, or one unlock.

abbrev pub chosen : Turn → List Todo → List Todo → List Todo
chosen Left left right = left
chosen Right left right = right

abbrev pub with_todo : Spot → List Todo → Spot
with_todo s todo = record s { frame = record s.frame { todo = todo } }

-- A return within locks of its frame unlocks the innermost, and stays.
abbrev pub operated : Core → Spot → List Todo → CoreOp → Next After
operated core s rest op =
    if is_return op && nat_lt 0 s.frame.locked
    then Goes (after (unlocked s))
    else op_step core (with_todo s rest) op

abbrev pub todo_step : Core → Turn → List Holder → Spot → List Todo → Next After
todo_step core turn others s [] = Ends
todo_step core turn others s (Op place op ∷ rest) = operated core s rest op
todo_step core turn others s (Choice left right ∷ rest) =
    Goes (after (with_todo s (chosen turn (before left rest) (before right rest))))
todo_step core turn others s (Loop body ∷ rest) =
    Goes (after (with_todo s (chosen turn (before body (Loop body ∷ rest)) rest)))
todo_step core turn others s (Sync lock body ∷ rest) =
    lock_step others (with_todo s rest) lock.kind body (top s.frame)
todo_step core turn others s (Unlock ∷ rest) = Goes (after (unlocked (with_todo s rest)))

abbrev pub frame_step : Core → Turn → List Holder → Spot → Next After
frame_step core turn others s = todo_step core turn others s s.frame.todo

-- a step of a thread beside one that holds these monitors
abbrev pub thread_step : Core → Turn → List Holder → Store → Thread → Next After
thread_step core turn others store thread =
    elim thread.frames [
      | [] ↦ Ends
      | ◌∷◌ frame callers ↦
          frame_step core turn others
          (record { store = store; frame = frame; callers = callers; locks = thread.locks })
    ]

-- a step of thread 0 or 1, which takes this turn where it is at a choice or a loop
abbrev pub step : Core → State → ℕ → Turn → Next State
step core s t turn =
    within (λ (a : After). with_thread s t a.store a.thread)
    (thread_step core turn (other_of s t).locks s.store (thread_of s t))
