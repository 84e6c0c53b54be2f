-- One step over two stores that read alike.
use Rattle.std.proofs.Common.{◌≡◌, ℕ, suc, Bool, true, false, cond, not, ◌&&◌, List, [], ◌∷◌, Option, None, Some, refl}
use Rattle.std.proofs.Common.{ap}
use Rattle.std.proofs.Common.{nat_lt, slice_index_or, slice_get}
use Rattle.std.specs.Prelude.{Result, Ok, Err}
use Rattle.std.specs.List.{list_any}
use Rattle.std.specs.Option.{option_and_then}
use Rattle.std.proofs.lemmas.Bool.{not-true}
use Rattle.racer_base.specs.declared.ids.FieldId.{FieldId}
use Rattle.racer_base.specs.declared.ids.MethodId.{MethodId}
use Rattle.racer_base.specs.declared.ids.Touch.TheVariants.{Read}
use Rattle.access_paths.specs.Paths.{same_field}
use Rattle.core_code.specs.declared.code.Op.{Op as CoreOp}
use Rattle.core_code.specs.declared.code.Op.TheVariants.{Push, PushClass, PushPrim, PushNull, New, Dup, Drop, Get, Put}
use Rattle.core_code.specs.declared.code.Op.TheVariants.{Set, Prim, Outside, Call, Unread as UnreadCall, Ret, Throw}
use Rattle.core_code.specs.Core.{Core, Method}
use Rattle.core_code.specs.Calls.{method_at}
use Rattle.core_code.specs.Tree.{Tree, is_return}
use Rattle.core_semantics.specs.declared.answer.Holder.{Holder}
use Rattle.core_semantics.specs.declared.answer.Turn.{Turn}
use Rattle.core_semantics.specs.declared.answer.Why.{Why}
use Rattle.core_semantics.specs.declared.answer.Why.TheVariants.{UnreadCall as UnreadWhy}
use Rattle.core_semantics.specs.declared.object.Object.{Object}
use Rattle.core_semantics.specs.declared.object.Object.TheVariants.{Fresh}
use Rattle.core_semantics.specs.declared.object.Value.{Value}
use Rattle.core_semantics.specs.declared.object.Value.TheVariants.{Null, Plain, Opaque, Object as Ref}
use Rattle.core_semantics.specs.Objects.{same_monitor, same_object}
use Rattle.core_semantics.specs.Runs.{Access, access_of, frame_touch, op_touch, todo_touch}
use Rattle.core_semantics.specs.State.{Frame, Store, Thread, Todo, Op, Choice, Loop, Sync, Unlock}
use Rattle.core_semantics.specs.Steps.{After, Inner, Next, Spot, Goes, Sticks, Waits, Ends, after, base_of, called}
use Rattle.core_semantics.specs.Steps.{called_method, entering, inner_step, kind_of}
use Rattle.core_semantics.specs.Steps.{lock_with, monitor_of, on_base, op_step, operated, passed_from, put}
use Rattle.core_semantics.specs.Steps.{read, replaced, returned, slot_of, thread_step, todo_step, top, unlocked}
use Rattle.core_semantics.specs.Steps.{unstored}
use Rattle.core_semantics.specs.Steps.{with_inner, within, written, with_lock}
use Rattle.witness_build_apart_laws.specs.Apart.{ReadAlike, is_avoided}

abbrev pub Spots : Type 0
Spots = Object → FieldId → Bool

-- ---- stores

held : Core → Store → Object → FieldId → Option Value → Value
held core s o f v = elim v [ None ↦ unstored s.heap (kind_of core f) o f | Some w ↦ w ]

written-alike : (core : Core) (but : Spots) (a b : Store) (o : Object) (f : FieldId) (v : Value) →
    ReadAlike core but a b → ReadAlike core but (written a o f v) (written b o f v)
written-alike core but a b o f v alike =
    record {
      fresh = alike.fresh;
      heap = alike.heap;
      reads = λ p g outside.
          elim (same_object o p && same_field f g) as (λ c.
          (elim (cond c (Some v) (a.cells p g)) as (λ _. Value)
          [ None ↦ unstored a.heap (kind_of core g) p g | Some w ↦ w ])
          ≡ (elim (cond c (Some v) (b.cells p g)) as (λ _. Value)
          [ None ↦ unstored b.heap (kind_of core g) p g | Some w ↦ w ])) [
            | true ↦ refl
            | false ↦ alike.reads p g outside
          ];
    }

-- ---- one frame

abbrev pub InnerAlike : Core → Spots → Next Inner → Next Inner → Type 0
InnerAlike core but (Goes i) (Goes j) = (i.frame ≡ j.frame) × ReadAlike core but i.store j.store
InnerAlike core but (Sticks v) (Sticks w) = v ≡ w
InnerAlike core but (Waits m) (Waits n) = m ≡ n
InnerAlike core but Ends Ends = Unit {0}
InnerAlike core but _ _ = ⊥

abbrev pub at : Store → Frame → Inner
at s f = record { store = s; frame = f }

get-alike : (core : Core) (but : Spots) (a b : Store) (f : Frame) (x : FieldId) (v : Value) → ReadAlike core but a b →
    is_avoided but (access_of v x Read) ≡ true →
    InnerAlike core but
    (on_base (base_of v) (λ o. Goes (at a (replaced f 1 (read core a o x)))))
    (on_base (base_of v) (λ o. Goes (at b (replaced f 1 (read core b o x)))))
get-alike core but a b f x Plain alike avoided = refl
get-alike core but a b f x Opaque alike avoided = refl
get-alike core but a b f x Null alike avoided = refl
get-alike core but a b f x (Ref o) alike avoided =
    (ap (replaced f 1) (alike.reads o x (not-true (but o x) avoided)), alike)

put-alike : (core : Core) (but : Spots) (a b : Store) (f : Frame) (x : FieldId) (r : Result Object Why) →
    ReadAlike core but a b →
    InnerAlike core but (on_base r (put (at a f) x)) (on_base r (put (at b f) x))
put-alike core but a b f x (Ok o) alike = (refl, written-alike core but a b o x (top f) alike)
put-alike core but a b f x (Err why) alike = refl

made-alike : (core : Core) (but : Spots) (a b : Store) → ReadAlike core but a b →
    ReadAlike core but (record a { fresh = suc a.fresh }) (record b { fresh = suc b.fresh })
made-alike core but a b alike = record { fresh = ap suc alike.fresh; heap = alike.heap; reads = alike.reads }

pub inner-alike : (core : Core) (but : Spots) (a b : Store) (f : Frame) (op : CoreOp) → ReadAlike core but a b →
    is_avoided but (op_touch f op) ≡ true →
    InnerAlike core but (inner_step core (at a f) op) (inner_step core (at b f) op)
inner-alike core but a b f (Push v) alike avoided = (refl, alike)
inner-alike core but a b f (PushClass c) alike avoided = (refl, alike)
inner-alike core but a b f PushPrim alike avoided = (refl, alike)
inner-alike core but a b f PushNull alike avoided = (refl, alike)
inner-alike core but a b f (New c) alike avoided =
    (ap (λ (n : ℕ). replaced f 0 (Ref (Fresh n))) alike.fresh, made-alike core but a b alike)
inner-alike core but a b f Dup alike avoided = (refl, alike)
inner-alike core but a b f Drop alike avoided = (refl, alike)
inner-alike core but a b f (Get x) alike avoided = get-alike core but a b f x (top f) alike avoided
inner-alike core but a b f (Put x) alike avoided = put-alike core but a b f x (base_of (slot_of f 1)) alike
inner-alike core but a b f (Set v) alike avoided = (refl, alike)
inner-alike core but a b f (Prim n) alike avoided = (refl, alike)
inner-alike core but a b f (Outside n) alike avoided = (refl, alike)
inner-alike core but a b f (Call m n) alike avoided = refl
inner-alike core but a b f (UnreadCall m n) alike avoided = refl
inner-alike core but a b f Ret alike avoided = refl
inner-alike core but a b f Throw alike avoided = refl

-- ---- a thread

abbrev pub AfterAlike : Core → Spots → Next After → Next After → Type 0
AfterAlike core but (Goes a) (Goes b) = (a.thread ≡ b.thread) × ReadAlike core but a.store b.store
AfterAlike core but (Sticks v) (Sticks w) = v ≡ w
AfterAlike core but (Waits m) (Waits n) = m ≡ n
AfterAlike core but Ends Ends = Unit {0}
AfterAlike core but _ _ = ⊥

abbrev pub spot : Store → Frame → List Frame → List Holder → Spot
spot s f callers locks = record { store = s; frame = f; callers = callers; locks = locks }

frame-alike : (core : Core) (but : Spots) (callers : List Frame) (locks : List Holder) (i j : Inner) →
    (i.frame ≡ j.frame) × ReadAlike core but i.store j.store →
    AfterAlike core but (Goes (after (spot i.store i.frame callers locks)))
    (Goes (after (spot j.store j.frame callers locks)))
frame-alike core but callers locks i j alike =
    (ap (λ (f : Frame). let t : Thread = record { frames = f ∷ callers; locks = locks } in t) alike.0, alike.1)

within-alike : (core : Core) (but : Spots) (a b : Store) (f : Frame) (callers : List Frame) (locks : List Holder)
    (m n : Next Inner) → InnerAlike core but m n →
    AfterAlike core but (within (λ i. after (with_inner (spot a f callers locks) i)) m)
    (within (λ i. after (with_inner (spot b f callers locks) i)) n)
within-alike core but a b f callers locks (Goes i) (Goes j) alike = frame-alike core but callers locks i j alike
within-alike core but a b f callers locks (Sticks v) (Sticks w) alike = alike
within-alike core but a b f callers locks (Waits v) (Waits w) alike = alike
within-alike core but a b f callers locks Ends Ends alike = tt
within-alike core but a b f callers locks (Goes i) (Sticks w) alike = absurd alike
within-alike core but a b f callers locks (Goes i) (Waits w) alike = absurd alike
within-alike core but a b f callers locks (Goes i) Ends alike = absurd alike
within-alike core but a b f callers locks (Sticks v) (Goes j) alike = absurd alike
within-alike core but a b f callers locks (Sticks v) (Waits w) alike = absurd alike
within-alike core but a b f callers locks (Sticks v) Ends alike = absurd alike
within-alike core but a b f callers locks (Waits v) (Goes j) alike = absurd alike
within-alike core but a b f callers locks (Waits v) (Sticks w) alike = absurd alike
within-alike core but a b f callers locks (Waits v) Ends alike = absurd alike
within-alike core but a b f callers locks Ends (Goes j) alike = absurd alike
within-alike core but a b f callers locks Ends (Sticks w) alike = absurd alike
within-alike core but a b f callers locks Ends (Waits w) alike = absurd alike

base-entered : (core : Core) (but : Spots) (a b : Store) (f : Frame) (callers : List Frame) (locks : List Holder)
    (method : Method) (n : ℕ) (r : Result Object Why) → ReadAlike core but a b →
    AfterAlike core but (on_base r (λ o. entering (spot a f callers locks) method n))
    (on_base r (λ o. entering (spot b f callers locks) method n))
base-entered core but a b f callers locks method n (Ok o) alike = (refl, alike)
base-entered core but a b f callers locks method n (Err why) alike = refl

method-called : (core : Core) (but : Spots) (a b : Store) (f : Frame) (callers : List Frame) (locks : List Holder)
    (method : Method) (n : ℕ) → ReadAlike core but a b →
    AfterAlike core but (called_method (spot a f callers locks) method n)
    (called_method (spot b f callers locks) method n)
method-called core but a b f callers locks method n alike =
    elim method.is_static as (λ c. AfterAlike core but
    (cond c (entering (spot a f callers locks) method n)
    (on_base (base_of (slice_index_or (passed_from f n) 0 Null)) (λ o. entering (spot a f callers locks) method n)))
    (cond c (entering (spot b f callers locks) method n)
    (on_base (base_of (slice_index_or (passed_from f n) 0 Null)) (λ o. entering (spot b f callers locks) method n)))) [
      | true ↦ (refl, alike)
      | false ↦
          base-entered core but a b f callers locks method n (base_of (slice_index_or (passed_from f n) 0 Null)) alike
    ]

called-alike : (core : Core) (but : Spots) (a b : Store) (f : Frame) (callers : List Frame) (locks : List Holder)
    (m : MethodId) (n : ℕ) → ReadAlike core but a b →
    AfterAlike core but (called core (spot a f callers locks) m n) (called core (spot b f callers locks) m n)
called-alike core but a b f callers locks m n alike =
    elim (method_at core m) as (λ found. AfterAlike core but
    (elim found as (λ _. Next After) [
      | None ↦ Sticks UnreadWhy
      | Some method ↦
          called_method (spot a f callers locks) method n
    ])
    (elim found as (λ _. Next After) [
      | None ↦ Sticks UnreadWhy
      | Some method ↦
          called_method (spot b f callers locks) method n
    ])) [
      | None ↦ refl
      | Some method ↦ method-called core but a b f callers locks method n alike
    ]

returned-alike : (core : Core) (but : Spots) (a b : Store) (f : Frame) (callers : List Frame) (locks : List Holder) →
    ReadAlike core but a b →
    AfterAlike core but (returned (spot a f callers locks)) (returned (spot b f callers locks))
returned-alike core but a b f [] locks alike = (refl, alike)
returned-alike core but a b f (c ∷ callers) locks alike = (refl, alike)

op-alike : (core : Core) (but : Spots) (a b : Store) (f : Frame) (callers : List Frame) (locks : List Holder)
    (op : CoreOp) → ReadAlike core but a b → is_avoided but (op_touch f op) ≡ true →
    AfterAlike core but (op_step core (spot a f callers locks) op) (op_step core (spot b f callers locks) op)
op-alike core but a b f callers locks (Call m n) alike avoided = called-alike core but a b f callers locks m n alike
op-alike core but a b f callers locks Ret alike avoided = returned-alike core but a b f callers locks alike
op-alike core but a b f callers locks op alike avoided =
    within-alike core but a b f callers locks (inner_step core (at a f) op) (inner_step core (at b f) op)
    (inner-alike core but a b f op alike avoided)

abbrev with_steps : Frame → List Todo → Frame
with_steps f todo = record f { todo = todo }

operated-alike : (core : Core) (but : Spots) (a b : Store) (f : Frame) (callers : List Frame) (locks : List Holder)
    (rest : List Todo) (op : CoreOp) → ReadAlike core but a b → is_avoided but (op_touch f op) ≡ true →
    AfterAlike core but (operated core (spot a f callers locks) rest op)
    (operated core (spot b f callers locks) rest op)
operated-alike core but a b f callers locks rest op alike avoided =
    elim (is_return op && nat_lt 0 f.locked) as (λ c. AfterAlike core but
    (cond c (Goes (after (unlocked (spot a f callers locks))))
    (op_step core (spot a (with_steps f rest) callers locks) op))
    (cond c (Goes (after (unlocked (spot b f callers locks))))
    (op_step core (spot b (with_steps f rest) callers locks) op))) [
      | true ↦ (refl, alike)
      | false ↦ op-alike core but a b (with_steps f rest) callers locks op alike (moved op avoided)
    ]
  where
    moved : (op : CoreOp) → is_avoided but (op_touch f op) ≡ true →
        is_avoided but (op_touch (with_steps f rest) op) ≡ true
    moved (Get x) e = e
    moved (Put x) e = e
    moved _ e = refl

lock-alike : (core : Core) (but : Spots) (a b : Store) (f : Frame) (callers : List Frame) (locks others : List Holder)
    (body : Tree) (r : Result Holder Why) → ReadAlike core but a b →
    AfterAlike core but (lock_with others (spot a f callers locks) body r)
    (lock_with others (spot b f callers locks) body r)
lock-alike core but a b f callers locks others body (Err why) alike = refl
lock-alike core but a b f callers locks others body (Ok monitor) alike =
    elim (list_any (λ held. same_monitor held monitor) others) as (λ c. AfterAlike core but
    (cond c (Waits monitor) (Goes (after (with_lock (spot a f callers locks) body monitor))))
    (cond c (Waits monitor) (Goes (after (with_lock (spot b f callers locks) body monitor))))) [
      | true ↦ refl
      | false ↦ (refl, alike)
    ]

todo-alike : (core : Core) (but : Spots) (turn : Turn) (a b : Store) (f : Frame) (callers : List Frame)
    (locks others : List Holder) (todo : List Todo) → ReadAlike core but a b →
    is_avoided but (option_and_then (todo_touch f) (slice_get todo 0)) ≡ true →
    AfterAlike core but (todo_step core turn others (spot a f callers locks) todo)
    (todo_step core turn others (spot b f callers locks) todo)
todo-alike core but turn a b f callers locks others [] alike avoided = tt
todo-alike core but turn a b f callers locks others (Op place op ∷ rest) alike avoided =
    operated-alike core but a b f callers locks rest op alike avoided
todo-alike core but turn a b f callers locks others (Choice left right ∷ rest) alike avoided = (refl, alike)
todo-alike core but turn a b f callers locks others (Loop body ∷ rest) alike avoided = (refl, alike)
todo-alike core but turn a b f callers locks others (Sync lock body ∷ rest) alike avoided =
    lock-alike core but a b (with_steps f rest) callers locks others body (monitor_of lock.kind (top f)) alike
todo-alike core but turn a b f callers locks others (Unlock ∷ rest) alike avoided = (refl, alike)

abbrev pub thread_touch : Thread → Option Access
thread_touch thread = option_and_then frame_touch (slice_get thread.frames 0)

pub thread-alike : (core : Core) (but : Spots) (turn : Turn) (others : List Holder) (a b : Store) (frames : List Frame)
    (locks : List Holder) → ReadAlike core but a b →
    is_avoided but (option_and_then frame_touch (slice_get frames 0)) ≡ true →
    AfterAlike core but (thread_step core turn others a (record { frames = frames; locks = locks }))
    (thread_step core turn others b (record { frames = frames; locks = locks }))
thread-alike core but turn others a b [] locks alike avoided = tt
thread-alike core but turn others a b (f ∷ callers) locks alike avoided =
    todo-alike core but turn a b f callers locks others f.todo alike avoided
