-- No public contract rests on this: the invariant of the machine over any kinds. What is known of a frame's variables
-- and stack is a parameter, as is what each operation makes of it; callers, code still to do and runs do not look into
-- it.
use Rattle.std.specs.Prelude.{◌≡◌, ℕ, Bool, true, false, List, [], ◌∷◌, Some}
use Rattle.std.specs.Prelude.{drop, reverse, slice_index_or, take, Result, Ok, Err}
use Rattle.racer_base.specs.declared.ids.MethodId.{MethodId}
use Rattle.core_code.specs.declared.code.LockKind.{LockKind}
use Rattle.core_code.specs.declared.code.Op.{Op as CoreOp}
use Rattle.core_code.specs.declared.code.Op.TheVariants.{Call, Ret}
use Rattle.core_code.specs.Calls.{method_at}
use Rattle.core_code.specs.Core.{Core, Method}
use Rattle.core_code.specs.Tree.{Tree}
use Rattle.core_code.specs.Tree as tree
use Rattle.core_semantics.specs.declared.answer.Holder.{Holder}
use Rattle.core_semantics.specs.declared.answer.Why.{Why}
use Rattle.core_semantics.specs.declared.object.Object.{Object}
use Rattle.core_semantics.specs.declared.object.Value.{Value}
use Rattle.core_semantics.specs.declared.object.Value.TheVariants.{Null}
use Rattle.core_semantics.specs.Legs.{Halt, NoTurn, StuckFor, HeldBy, HasEnded, Ran, Came, Halted}
use Rattle.core_semantics.specs.State.{Frame, State, Store, Todo, Op, Choice, Loop, Sync, Unlock}
use Rattle.core_semantics.specs.Steps.{After, Inner, Next, Goes, Sticks, Waits, Ends, base_of, entered}
use Rattle.core_semantics.specs.Steps.{inner_step, monitor_of}

-- Of the frames of a method: what may be known of their variables and stack; that it is so; what is known at the entry;
-- and what a returned value is like. What the store is like; what is known before and after an operation, and before
-- and after a lock is popped; and for which reasons a step may be stuck.
pub record Kinding (core : Core) : Type 1 where
  pub Known : Type 0
  pub IsSo : Method → Known → List Value → List Value → Type 0
  pub at_entry : Method → Known
  pub IsResult : Method → Value → Type 0
  pub IsStored : Store → Type 0
  pub IsAfter : Method → CoreOp → Known → Known → Type 0
  pub IsUnder : Method → Known → Known → Type 0
  pub MayStick : Why → Type 0

-- ---- code

-- where the first is so, the second is
pub record IsWeaker (core : Core) (k : Kinding core) (method : Method) (a b : k.Known) : Type 0 where
  pub so : (vars stack : List Value) → k.IsSo method a vars stack → k.IsSo method b vars stack

pub record InTurn {K : Type 0} (First Rest : K → K → Type 0) (a b : K) : Type 0 where
  pub between : K
  pub first : First a between
  pub rest : Rest between b

pub record OneOf (core : Core) (k : Kinding core) (method : Method) (Left Right : k.Known → k.Known → Type 0)
    (a b : k.Known) : Type 0 where
  pub left : k.Known
  pub goes_left : Left a left
  pub from_left : IsWeaker core k method left b
  pub right : k.Known
  pub goes_right : Right a right
  pub from_right : IsWeaker core k method right b

-- what is known before each round
pub record Looping (core : Core) (k : Kinding core) (method : Method) (Body : k.Known → k.Known → Type 0)
    (a b : k.Known) : Type 0 where
  pub again : k.Known
  pub into : IsWeaker core k method a again
  pub after : k.Known
  pub body : Body again after
  pub back : IsWeaker core k method after again
  pub out : IsWeaker core k method again b

pub record Locking (core : Core) (k : Kinding core) (method : Method) (Body : k.Known → k.Known → Type 0)
    (a b : k.Known) : Type 0 where
  pub under : k.Known
  pub pops : k.IsUnder method a under
  pub body : Body under b

-- what is known before code and after it
abbrev pub Leads : (core : Core) → (k : Kinding core) → Method → Tree → k.Known → k.Known → Type 0
Leads core k method (tree.Op site place op) a b = k.IsAfter method op a b
Leads core k method tree.Skip a b = a ≡ b
Leads core k method (tree.Seq first rest) a b = InTurn (Leads core k method first) (Leads core k method rest) a b
Leads core k method (tree.Choice left right) a b =
    OneOf core k method (Leads core k method left) (Leads core k method right) a b
Leads core k method (tree.Loop body) a b = Looping core k method (Leads core k method body) a b
Leads core k method (tree.Sync lock body) a b = Locking core k method (Leads core k method body) a b

-- the code of a method
pub record IsCode (core : Core) (k : Kinding core) (method : Method) : Type 0 where
  pub ends : k.Known
  pub leads : Leads core k method method.code (k.at_entry method) ends

-- ---- code still to do

abbrev pub Does : (core : Core) → (k : Kinding core) → Method → Todo → k.Known → k.Known → Type 0
Does core k method (Op place op) a b = k.IsAfter method op a b
Does core k method (Choice left right) a b = Leads core k method (tree.Choice left right) a b
Does core k method (Loop body) a b = Leads core k method (tree.Loop body) a b
Does core k method (Sync lock body) a b = Leads core k method (tree.Sync lock body) a b
Does core k method Unlock a b = a ≡ b

-- A step fits what is known, or less of it, and what comes behind it fits what is known then. Less is known before a
-- step and nowhere else.
pub record CanStep (core : Core) (k : Kinding core) (method : Method) (step : Todo) (On : k.Known → Type 0)
    (known : k.Known) : Type 0 where
  pub from : k.Known
  pub weaker : IsWeaker core k method known from
  pub after : k.Known
  pub does : Does core k method step from after
  pub on : On after

abbrev pub CanDo : (core : Core) → (k : Kinding core) → Method → List Todo → k.Known → Type 0
CanDo core k method [] known = Unit {0}
CanDo core k method (step ∷ rest) known = CanStep core k method step (CanDo core k method rest) known

-- ---- frames

pub record IsRunning (core : Core) (k : Kinding core) (f : Frame) : Type 0 where
  pub method : Method
  pub known : k.Known
  pub so : k.IsSo method known f.vars f.stack
  pub todo : CanDo core k method f.todo known

-- a frame that waits for what this method gives back
pub record IsWaiting (core : Core) (k : Kinding core) (callee : Method) (f : Frame) : Type 0 where
  pub method : Method
  pub known : k.Known
  pub so : (v : Value) → k.IsResult callee v → k.IsSo method known f.vars (v ∷ f.stack)
  pub todo : CanDo core k method f.todo known

abbrev pub AreWaiting : (core : Core) → (k : Kinding core) → Method → List Frame → Type 0
AreWaiting core k callee [] = Unit {0}
AreWaiting core k callee (f ∷ fs) = (w : IsWaiting core k callee f) × AreWaiting core k w.method fs

-- the frames of a thread, innermost first
abbrev pub AreFrames : (core : Core) → (k : Kinding core) → List Frame → Type 0
AreFrames core k [] = Unit {0}
AreFrames core k (f ∷ fs) = (r : IsRunning core k f) × AreWaiting core k r.method fs

-- ---- steps and runs

pub record IsKept (core : Core) (k : Kinding core) (a : After) : Type 0 where
  pub stored : k.IsStored a.store
  pub frames : AreFrames core k a.thread.frames

-- both threads, and what they share
pub record IsState (core : Core) (k : Kinding core) (s : State) : Type 0 where
  pub stored : k.IsStored s.store
  pub first : AreFrames core k s.first.frames
  pub second : AreFrames core k s.second.frames

-- what comes of a step
abbrev pub StepKeeps : {X : Type 0} → (core : Core) → Kinding core → (X → Type 0) → Next X → Type 0
StepKeeps core k Is (Goes next) = Is next
StepKeeps core k Is (Sticks why) = k.MayStick why
StepKeeps core k Is (Waits monitor) = Unit {0}
StepKeeps core k Is Ends = Unit {0}

abbrev pub MayHalt : (core : Core) → Kinding core → Halt → Type 0
MayHalt core k NoTurn = Unit {0}
MayHalt core k (StuckFor why) = k.MayStick why
MayHalt core k (HeldBy monitor) = Unit {0}
MayHalt core k HasEnded = Unit {0}

-- the state behind steps, or before one that cannot be made
abbrev pub RanTo : (core : Core) → Kinding core → Ran → Type 0
RanTo core k (Came to left) = IsState core k to
RanTo core k (Halted halt at steps) = MayHalt core k halt × IsState core k at

-- ---- what has to be shown of a kinding

abbrev pub is_inner : CoreOp → Bool
is_inner (Call m n) = false
is_inner Ret = false
is_inner _ = true

-- an operation in one frame, after which this is known
pub record IsInner (core : Core) (k : Kinding core) (method : Method) (known : k.Known) (todo : List Todo)
    (i : Inner) : Type 0 where
  pub stored : k.IsStored i.store
  pub so : k.IsSo method known i.frame.vars i.frame.stack
  pub todo_stays : i.frame.todo ≡ todo

abbrev pub HasObject : (core : Core) → Kinding core → Result Object Why → Type 0
HasObject core k (Ok o) = Unit {0}
HasObject core k (Err why) = k.MayStick why

abbrev pub HasMonitor : (core : Core) → Kinding core → Result Holder Why → Type 0
HasMonitor core k (Ok monitor) = Unit {0}
HasMonitor core k (Err why) = k.MayStick why

-- The method that a call names; what it is entered with; the receiver, where there is one; and what is known when it
-- has given a value back.
pub record IsCalled (core : Core) (k : Kinding core) (method : Method) (m : MethodId) (n : ℕ) (after : k.Known)
    (vars stack : List Value) : Type 0 where
  pub callee : Method
  pub there : method_at core m ≡ Some callee
  pub code : IsCode core k callee
  pub passed : k.IsSo callee (k.at_entry callee) (entered callee (reverse (take n stack))).vars []
  pub receiver :
      callee.is_static ≡ false → HasObject core k (base_of (slice_index_or (reverse (take n stack)) 0 Null))
  pub back : (v : Value) → k.IsResult callee v → k.IsSo method after vars (v ∷ drop n stack)

-- a lock that is popped
pub record IsLocked (core : Core) (k : Kinding core) (method : Method) (under : k.Known) (vars stack : List Value)
    : Type 0 where
  pub monitor : (kind : LockKind) → HasMonitor core k (monitor_of kind (slice_index_or stack 0 Null))
  pub so : k.IsSo method under vars (drop 1 stack)

pub record Keeps (core : Core) (k : Kinding core) : Type 0 where
  pub inner : (method : Method) (i : Inner) (op : CoreOp) (a b : k.Known) → is_inner op ≡ true →
      k.IsAfter method op a b → k.IsStored i.store → k.IsSo method a i.frame.vars i.frame.stack →
      StepKeeps core k (IsInner core k method b i.frame.todo) (inner_step core i op)
  pub call : (method : Method) (m : MethodId) (n : ℕ) (a b : k.Known) (vars stack : List Value) →
      k.IsAfter method (Call m n) a b → k.IsSo method a vars stack → IsCalled core k method m n b vars stack
  pub result : (method : Method) (a b : k.Known) (vars stack : List Value) → k.IsAfter method Ret a b →
      k.IsSo method a vars stack → k.IsResult method (slice_index_or stack 0 Null)
  pub lock : (method : Method) (a b : k.Known) (vars stack : List Value) → k.IsUnder method a b →
      k.IsSo method a vars stack → IsLocked core k method b vars stack
