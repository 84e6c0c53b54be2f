-- One step in two heaps.
use Rattle.std.proofs.Common.{◌≡◌, ℕ, true, false, cond, ◌&&◌, List, [], ◌∷◌, Option, None, Some}
use Rattle.std.proofs.Common.{refl, ap, ◌∙◌, nat_eq, nat_lt, slice_index_or}
use Rattle.std.specs.Prelude.{Result, Ok, Err}
use Rattle.std.specs.List.{list_any}
use Rattle.racer_base.specs.declared.ids.FieldId.{FieldId}
use Rattle.core_code.specs.declared.code.Op.{Op as CoreOp}
use Rattle.core_code.specs.declared.code.Op.TheVariants.{Push, PushClass, PushPrim, PushNull, New, Dup, Drop, Get, Put}
use Rattle.core_code.specs.declared.code.Op.TheVariants.{Set, Prim, Outside, Call, Unread, Ret, Throw}
use Rattle.core_code.specs.Calls.{method_at}
use Rattle.core_code.specs.Core.{Core, Method}
use Rattle.core_code.specs.Tree.{Tree, is_return}
use Rattle.core_semantics.specs.declared.answer.Holder.{Holder}
use Rattle.core_semantics.specs.declared.answer.Turn.{Turn}
use Rattle.core_semantics.specs.declared.answer.Why.{Why}
use Rattle.core_semantics.specs.declared.answer.Why.TheVariants.{UnreadCall as UnreadWhy}
use Rattle.core_semantics.specs.declared.object.Object.{Object}
use Rattle.core_semantics.specs.declared.object.Value.TheVariants.{Null}
use Rattle.core_semantics.specs.Objects.{same_monitor}
use Rattle.core_semantics.specs.State.{Frame, State, Store, Thread, Todo, Op, Choice, Loop, Sync, Unlock}
use Rattle.core_semantics.specs.State.{thread_of, other_of, with_thread}
use Rattle.core_semantics.specs.Steps.{After, Inner, Next, Goes, Sticks, Waits, Ends, Spot, base_of, called_method}
use Rattle.core_semantics.specs.Steps.{entering, going, inner, inner_step, lock_with, locking, monitor_of}
use Rattle.core_semantics.specs.Steps.{on_base, op_step, operated, passed_from, put, read, replaced, returned, slot_of}
use Rattle.core_semantics.specs.Steps.{after, step, thread_step, todo_step, top, unlocked, with_inner, with_lock}
use Rattle.core_semantics.specs.Steps.{with_todo, within}
use Rattle.witness_build_laws.specs.Heaps.{Heap, after_in, state_in, store_in}

-- a frame, its callers and monitors, in another heap
abbrev spot_in : Heap → Spot → Spot
spot_in heap s = record { store = store_in heap s.store; frame = s.frame; callers = s.callers; locks = s.locks }

abbrev inner_in : Heap → Inner → Inner
inner_in heap i = record { store = store_in heap i.store; frame = i.frame }

-- what an operation reads is the same in the other heap
abbrev pub ReadsSame : Core → Heap → Store → Frame → CoreOp → Type 0
ReadsSame core heap store frame op =
    (f : FieldId) (o : Object) → op ≡ Get f → base_of (top frame) ≡ Ok o →
    read core (store_in heap store) o f ≡ read core store o f

-- ---- operations in one frame

got-same : (core : Core) (heap : Heap) (i : Inner) (f : FieldId) (r : Result Object Why) →
    ((o : Object) → r ≡ Ok o → read core (store_in heap i.store) o f ≡ read core i.store o f) →
    on_base r (λ o. going (inner_in heap i) (replaced i.frame 1 (read core (store_in heap i.store) o f)))
    ≡ within (inner_in heap) (on_base r (λ o. going i (replaced i.frame 1 (read core i.store o f))))
got-same core heap i f (Ok o) same = ap (λ v. going (inner_in heap i) (replaced i.frame 1 v)) (same o refl)
got-same core heap i f (Err why) same = refl

put-same : (heap : Heap) (i : Inner) (f : FieldId) (r : Result Object Why) →
    on_base r (put (inner_in heap i) f) ≡ within (inner_in heap) (on_base r (put i f))
put-same heap i f (Ok o) = refl
put-same heap i f (Err why) = refl

inner-same : (core : Core) (heap : Heap) (i : Inner) (op : CoreOp) → ReadsSame core heap i.store i.frame op →
    inner_step core (inner_in heap i) op ≡ within (inner_in heap) (inner_step core i op)
inner-same core heap i (Push v) same = refl
inner-same core heap i (PushClass c) same = refl
inner-same core heap i PushPrim same = refl
inner-same core heap i PushNull same = refl
inner-same core heap i (New c) same = refl
inner-same core heap i Dup same = refl
inner-same core heap i Drop same = refl
inner-same core heap i (Get f) same = got-same core heap i f (base_of (top i.frame)) (λ o e. same f o refl e)
inner-same core heap i (Put f) same = put-same heap i f (base_of (slot_of i.frame 1))
inner-same core heap i (Set v) same = refl
inner-same core heap i (Prim n) same = refl
inner-same core heap i (Outside n) same = refl
inner-same core heap i (Call m n) same = refl
inner-same core heap i (Unread m n) same = refl
inner-same core heap i Ret same = refl
inner-same core heap i Throw same = refl

-- ---- calls, returns and locks

received-same : (heap : Heap) (s : Spot) (method : Method) (n : ℕ) (r : Result Object Why) →
    on_base r (λ o. entering (spot_in heap s) method n)
    ≡ within (after_in heap) (on_base r (λ o. entering s method n))
received-same heap s method n (Ok o) = refl
received-same heap s method n (Err why) = refl

called-same : (heap : Heap) (s : Spot) (method : Method) (n : ℕ) →
    called_method (spot_in heap s) method n ≡ within (after_in heap) (called_method s method n)
called-same heap s method n =
    elim method.is_static as (λ b.
    cond b (entering (spot_in heap s) method n)
    (on_base (base_of (slice_index_or (passed_from s.frame n) 0 Null)) (λ o. entering (spot_in heap s) method n))
    ≡ within (after_in heap) (cond b (entering s method n)
    (on_base (base_of (slice_index_or (passed_from s.frame n) 0 Null)) (λ o. entering s method n)))) [
      | true ↦ refl
      | false ↦ received-same heap s method n (base_of (slice_index_or (passed_from s.frame n) 0 Null))
    ]

call-same : (heap : Heap) (s : Spot) (n : ℕ) (why : Why) (method : Option Method) →
    (elim method as (λ _. Next After) [ None ↦ Sticks why | Some m ↦ called_method (spot_in heap s) m n ])
    ≡ within (after_in heap) (elim method as (λ _. Next After) [ None ↦ Sticks why | Some m ↦ called_method s m n ])
call-same heap s n why None = refl
call-same heap s n why (Some m) = called-same heap s m n

returned-same : (heap : Heap) (store : Store) (frame : Frame) (callers : List Frame) (locks : List Holder) →
    (let s : Spot = record { store = store; frame = frame; callers = callers; locks = locks } in
    returned (spot_in heap s) ≡ within (after_in heap) (returned s))
returned-same heap store frame [] locks = refl
returned-same heap store frame (caller ∷ callers) locks = refl

within-same : (heap : Heap) (s : Spot) (next : Next Inner) →
    within (λ j. after (with_inner (spot_in heap s) j)) (within (inner_in heap) next)
    ≡ within (after_in heap) (within (λ i. after (with_inner s i)) next)
within-same heap s (Goes i) = refl
within-same heap s (Sticks why) = refl
within-same heap s (Waits monitor) = refl
within-same heap s Ends = refl

plain-same : (core : Core) (heap : Heap) (s : Spot) (op : CoreOp) → ReadsSame core heap s.store s.frame op →
    within (λ j. after (with_inner (spot_in heap s) j)) (inner_step core (inner (spot_in heap s)) op)
    ≡ within (after_in heap) (within (λ i. after (with_inner s i)) (inner_step core (inner s) op))
plain-same core heap s op same =
    ap (within (λ j. after (with_inner (spot_in heap s) j))) (inner-same core heap (inner s) op same)
    ∙ within-same heap s (inner_step core (inner s) op)

op-same : (core : Core) (heap : Heap) (s : Spot) (op : CoreOp) → ReadsSame core heap s.store s.frame op →
    op_step core (spot_in heap s) op ≡ within (after_in heap) (op_step core s op)
op-same core heap s (Push v) same = plain-same core heap s (Push v) same
op-same core heap s (PushClass c) same = plain-same core heap s (PushClass c) same
op-same core heap s PushPrim same = plain-same core heap s PushPrim same
op-same core heap s PushNull same = plain-same core heap s PushNull same
op-same core heap s (New c) same = plain-same core heap s (New c) same
op-same core heap s Dup same = plain-same core heap s Dup same
op-same core heap s Drop same = plain-same core heap s Drop same
op-same core heap s (Get f) same = plain-same core heap s (Get f) same
op-same core heap s (Put f) same = plain-same core heap s (Put f) same
op-same core heap s (Set v) same = plain-same core heap s (Set v) same
op-same core heap s (Prim n) same = plain-same core heap s (Prim n) same
op-same core heap s (Outside n) same = plain-same core heap s (Outside n) same
op-same core heap s (Call m n) same = call-same heap s n UnreadWhy (method_at core m)
op-same core heap s (Unread m n) same = plain-same core heap s (Unread m n) same
op-same core heap s Ret same = returned-same heap s.store s.frame s.callers s.locks
op-same core heap s Throw same = plain-same core heap s Throw same

operated-same : (core : Core) (heap : Heap) (s : Spot) (rest : List Todo) (op : CoreOp) →
    ReadsSame core heap s.store s.frame op →
    operated core (spot_in heap s) rest op ≡ within (after_in heap) (operated core s rest op)
operated-same core heap s rest op same =
    elim (is_return op && nat_lt 0 s.frame.locked) as (λ b.
    cond b (Goes (after (unlocked (spot_in heap s)))) (op_step core (with_todo (spot_in heap s) rest) op)
    ≡ within (after_in heap) (cond b (Goes (after (unlocked s))) (op_step core (with_todo s rest) op))) [
      | true ↦ refl
      | false ↦ op-same core heap (with_todo s rest) op same
    ]

locking-same : (heap : Heap) (others : List Holder) (s : Spot) (body : Tree) (monitor : Holder) →
    locking others (spot_in heap s) body monitor ≡ within (after_in heap) (locking others s body monitor)
locking-same heap others s body monitor =
    elim (list_any (λ held. same_monitor held monitor) others) as (λ b.
    cond b (Waits monitor) (Goes (after (with_lock (spot_in heap s) body monitor))) ≡
    within (after_in heap) (cond b (Waits monitor) (Goes (after (with_lock s body monitor))))) [
      | true ↦ refl
      | false ↦ refl
    ]

lock-same : (heap : Heap) (others : List Holder) (s : Spot) (body : Tree) (r : Result Holder Why) →
    lock_with others (spot_in heap s) body r ≡ within (after_in heap) (lock_with others s body r)
lock-same heap others s body (Ok monitor) = locking-same heap others s body monitor
lock-same heap others s body (Err why) = refl

-- ---- what a thread does next

-- what the next step of a frame reads is the same in the other heap
abbrev pub NextReadsSame : Core → Heap → Store → Frame → List Todo → Type 0
NextReadsSame core heap store frame [] = Unit {0}
NextReadsSame core heap store frame (Op place op ∷ rest) = ReadsSame core heap store frame op
NextReadsSame core heap store frame (Choice left right ∷ rest) = Unit {0}
NextReadsSame core heap store frame (Loop body ∷ rest) = Unit {0}
NextReadsSame core heap store frame (Sync lock body ∷ rest) = Unit {0}
NextReadsSame core heap store frame (Unlock ∷ rest) = Unit {0}

todo-same : (core : Core) (heap : Heap) (turn : Turn) (others : List Holder) (s : Spot) (todo : List Todo) →
    NextReadsSame core heap s.store s.frame todo →
    todo_step core turn others (spot_in heap s) todo ≡ within (after_in heap) (todo_step core turn others s todo)
todo-same core heap turn others s [] same = refl
todo-same core heap turn others s (Op place op ∷ rest) same = operated-same core heap s rest op same
todo-same core heap turn others s (Choice left right ∷ rest) same = refl
todo-same core heap turn others s (Loop body ∷ rest) same = refl
todo-same core heap turn others s (Sync lock body ∷ rest) same =
    lock-same heap others (with_todo s rest) body (monitor_of lock.kind (top s.frame))
todo-same core heap turn others s (Unlock ∷ rest) same = refl

-- the same of a thread
abbrev pub ThreadReadsSame : Core → Heap → Store → List Frame → Type 0
ThreadReadsSame core heap store [] = Unit {0}
ThreadReadsSame core heap store (frame ∷ callers) = NextReadsSame core heap store frame frame.todo

frames-same : (core : Core) (heap : Heap) (turn : Turn) (others : List Holder) (store : Store) (locks : List Holder)
    (frames : List Frame) → ThreadReadsSame core heap store frames →
    (let thread : Thread = record { frames = frames; locks = locks } in
    thread_step core turn others (store_in heap store) thread
    ≡ within (after_in heap) (thread_step core turn others store thread))
frames-same core heap turn others store locks [] same = refl
frames-same core heap turn others store locks (frame ∷ callers) same =
    todo-same core heap turn others (record { store = store; frame = frame; callers = callers; locks = locks })
    frame.todo same

after-same : (heap : Heap) (s : State) (t : ℕ) (next : Next After) →
    within (λ (a : After). with_thread (state_in heap s) t a.store a.thread) (within (after_in heap) next)
    ≡ within (state_in heap) (within (λ (a : After). with_thread s t a.store a.thread) next)
after-same heap s t (Goes a) =
    elim (nat_eq t 0) as (λ b. Goes (cond b
    (let x : State = record { store = store_in heap a.store; first = a.thread; second = s.second } in x)
    (let x : State = record { store = store_in heap a.store; first = s.first; second = a.thread } in x)) ≡
    Goes (state_in heap (cond b
    (let x : State = record { store = a.store; first = a.thread; second = s.second } in x)
    (let x : State = record { store = a.store; first = s.first; second = a.thread } in x)))) [
      | true ↦ refl
      | false ↦ refl
    ]
after-same heap s t (Sticks why) = refl
after-same heap s t (Waits monitor) = refl
after-same heap s t Ends = refl

-- a step in another heap
pub step-same : (core : Core) (heap : Heap) (s : State) (t : ℕ) (turn : Turn) →
    ThreadReadsSame core heap s.store (thread_of s t).frames →
    step core (state_in heap s) t turn ≡ within (state_in heap) (step core s t turn)
step-same core heap s t turn same =
    ap (within (λ (a : After). with_thread (state_in heap s) t a.store a.thread))
    (frames-same core heap turn (other_of s t).locks s.store (thread_of s t).locks (thread_of s t).frames same)
    ∙ after-same heap s t (thread_step core turn (other_of s t).locks s.store (thread_of s t))
