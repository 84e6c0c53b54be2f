-- A contract of a public call rests on this: what is seen of the machine.
use Rattle.std.specs.Prelude.{◌≡◌, Bool, false, ◌&&◌, nat_eq, List, [], ◌∷◌, Option, None, Some, drop, length, ◌<◌, map}
use Rattle.std.specs.Prelude.{reverse}
use Rattle.std.specs.Borrow.{Bor}
use Rattle.racer_base.specs.declared.ids.FieldId.{FieldId}
use Rattle.racer_base.specs.declared.ids.Touch.{Touch}
use Rattle.core_semantics.specs.declared.object.Object.{Object}
use Rattle.core_semantics.specs.Runs.{Access}
use Rattle.core_code.specs.declared.code.Op.{Op as CoreOp}
use Rattle.core_code.specs.Tree.{tree_of, in_sequence, is_return}
use Rattle.core_semantics.specs.declared.pending.Pending.{Pending}
use Rattle.core_semantics.specs.declared.pending.Pending.TheVariants.{One, Parts, Unlock as PendingUnlock}
use Rattle.core_semantics.specs.declared.pending.NextStep.{NextStep}
use Rattle.core_semantics.specs.declared.pending.NextStep.TheVariants as step
use Rattle.core_semantics.specs.declared.pending.Unfolded.{Unfolded}
use Rattle.core_semantics.specs.declared.pending.Unfolded.TheVariants.{Next as ANext, Nothing as ANothing, One as AOne}
use Rattle.core_semantics.specs.declared.pending.Unfolded.TheVariants.{Two as ATwo}
use Rattle.core_semantics.specs.declared.frame.Frame.{Frame as CodeFrame}
use Rattle.core_semantics.specs.declared.store.Store.{Store as CodeStore}
use Rattle.core_semantics.specs.CellOrder.{cells_of, heap_of}
use Rattle.core_semantics.specs.declared.answer.Holder.{Holder}
use Rattle.core_semantics.specs.declared.machine.Machine.{Machine}
use Rattle.core_semantics.specs.declared.thread.Running.{Running}
use Rattle.core_semantics.specs.declared.thread.Thread.{Thread as CodeThread}
use Rattle.core_semantics.specs.Steps.{Inner, Spot, After}
use Rattle.core_semantics.specs.State.{Frame, Thread, State, Store, Todo, Op, Choice, Loop, Sync, Unlock, before}

-- the steps of a part, before others
abbrev pub before_part : Pending → List Todo → List Todo
before_part (One code) todo = before (tree_of code.now) todo
before_part (Parts parts) todo = before (in_sequence (map tree_of parts.now)) todo
before_part PendingUnlock todo = Unlock ∷ todo

-- the steps of parts
abbrev pub todo_of : List Pending → List Todo
todo_of [] = []
todo_of (part ∷ pending) = before_part part (todo_of pending)

abbrev pub step_of : NextStep → Todo
step_of (step.Op place op) = Op place op
step_of (step.Choice left right) = Choice (tree_of left.now) (tree_of right.now)
step_of (step.Loop body) = Loop (tree_of body.now)
step_of (step.Sync place kind body) = Sync (record { place = place; kind = kind }) (tree_of body.now)
step_of step.Unlock = Unlock

-- this step where there is one, else what comes then
abbrev pub or_next : Option NextStep → Option Todo → Option Todo
or_next None then_next = then_next
or_next (Some next) then_next = Some (step_of next)

abbrev pub before_unfolded : Unfolded → List Todo → List Todo
before_unfolded (ANext next) todo = step_of next ∷ todo
before_unfolded ANothing todo = todo
before_unfolded (AOne part) todo = before_part part todo
before_unfolded (ATwo part rest) todo = before_part part (before_part rest todo)

-- the next step of parts, and that it is all of the first of them
abbrev pub IsNext : Option NextStep → List Pending → Type 0
IsNext None pending = todo_of pending ≡ []
IsNext (Some next) pending = (0 < length pending) × (todo_of pending ≡ step_of next ∷ todo_of (drop 1 pending))

-- what is seen of a frame
abbrev pub frame_of : CodeFrame → Frame
frame_of f = record { vars = f.vars.items; stack = f.stack; todo = todo_of f.pending; locked = f.locked }

-- the same behind its next step
abbrev pub behind : CodeFrame → Frame
behind f = record (frame_of f) { todo = todo_of (drop 1 f.pending) }

-- the same with these steps still to do
abbrev pub with_steps : CodeFrame → List Todo → Frame
with_steps f todo = record (frame_of f) { todo = todo }

abbrev pub store_of : CodeStore → Store
store_of s = record { heap = heap_of s.heap; cells = cells_of s.cells; fresh = s.fresh }

-- what is seen of both
abbrev pub inner_of : CodeStore → CodeFrame → Inner
inner_of s f = record { store = store_of s; frame = frame_of f }

-- the same with the frame behind its next step
abbrev pub behind_inner : CodeStore → CodeFrame → Inner
behind_inner s f = record { store = store_of s; frame = behind f }

abbrev pub callers_of : Running → List Frame
callers_of r = map frame_of (reverse r.callers.items)

abbrev pub frames_of : Running → List Frame
frames_of r = frame_of r.frame ∷ callers_of r

abbrev pub running_frames : Option Running → List Frame
running_frames None = []
running_frames (Some r) = frames_of r

-- what is seen of a thread
abbrev pub seen_of : CodeThread → Thread
seen_of t = record { frames = running_frames t.running; locks = t.locks }

-- what is seen of a frame, in a store, with its callers and with the monitors that its thread holds
abbrev pub spot_at : Store → CodeFrame → List Frame → List Holder → Spot
spot_at store f callers locks = record { store = store; frame = frame_of f; callers = callers; locks = locks }

-- the same behind the next step
abbrev pub behind_at : Store → CodeFrame → List Frame → List Holder → Spot
behind_at store f callers locks = record { store = store; frame = behind f; callers = callers; locks = locks }

-- the same of a thread that has not ended
abbrev pub spot_of : Store → Running → List Holder → Spot
spot_of store r locks = spot_at store r.frame (callers_of r) locks

abbrev pub behind_spot : Store → Running → List Holder → Spot
behind_spot store r locks = behind_at store r.frame (callers_of r) locks

-- both of a thread that may have ended
abbrev pub seen_after : CodeStore → CodeThread → After
seen_after s t = record { store = store_of s; thread = seen_of t }

-- whether an operation is the return that ends a thread
abbrev pub ends_with : CoreOp → Running → Bool
ends_with op r = is_return op && nat_eq r.frame.locked 0 && nat_eq (length r.callers.items) 0

abbrev pub ends_thread : NextStep → Running → Bool
ends_thread (step.Op place op) r = ends_with op r
ends_thread _ r = false

-- what is seen of a machine
abbrev pub state_of : Machine → State
state_of m = record { store = store_of m.store; first = seen_of m.first; second = seen_of m.second }

-- what is seen of an access
abbrev pub seen_access : Bor Object × FieldId × Touch → Access
seen_access (o, f, kind) = (o.now, f, kind)
