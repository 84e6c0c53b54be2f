-- What one step changes of what is stored.
use Rattle.std.proofs.Common.{◌≡◌, ℕ, Bool, true, false, cond, ◌&&◌, List, [], ◌∷◌, None, Some, refl, sym, ap, subst}
use Rattle.std.proofs.Common.{◌∙◌}
use Rattle.std.proofs.Common.{nat_lt, slice_index_or, slice_get}
use Rattle.std.specs.Prelude.{Result, Ok, Err}
use Rattle.std.specs.List.{list_any}
use Rattle.racer_base.specs.declared.ids.FieldId.{FieldId}
use Rattle.racer_base.specs.declared.ids.MethodId.{MethodId}
use Rattle.access_paths.specs.Paths.{same_field}
use Rattle.core_code.specs.declared.code.Op.{Op as CoreOp}
use Rattle.core_code.specs.declared.code.Op.TheVariants.{Push, PushClass, PushPrim, PushNull, New, Dup, Drop, Get, Put}
use Rattle.core_code.specs.declared.code.Op.TheVariants.{Set, Prim, Outside, Call, Unread as UnreadCall, Ret, Throw}
use Rattle.core_code.specs.Core.{Core, Method}
use Rattle.core_code.specs.Calls.{method_at}
use Rattle.core_code.specs.Tree.{Tree, is_return}
use Rattle.core_semantics.specs.declared.answer.Holder.{Holder}
use Rattle.core_semantics.specs.declared.answer.Turn.{Turn}
use Rattle.core_semantics.specs.declared.answer.Why.{Why}
use Rattle.core_semantics.specs.declared.answer.Why.TheVariants.{UnreadCall as UnreadWhy}
use Rattle.core_semantics.specs.declared.object.Object.{Object}
use Rattle.core_semantics.specs.declared.object.Value.{Value}
use Rattle.core_semantics.specs.declared.object.Value.TheVariants.{Null, Plain, Opaque, Object as Ref}
use Rattle.core_semantics.specs.Objects.{same_monitor, same_object}
use Rattle.core_semantics.specs.State.{Frame, Store, Todo, Op, Choice, Loop, Sync, Unlock}
use Rattle.core_semantics.specs.Steps.{After, Inner, Next, Goes, Sticks, Waits, Ends, after, base_of, called}
use Rattle.core_semantics.specs.Steps.{called_method, entering, inner_step, kind_of, lock_with, monitor_of, on_base}
use Rattle.core_semantics.specs.Steps.{op_step}
use Rattle.core_semantics.specs.Steps.{operated, passed_from, put, read, replaced, returned, slot_of, thread_step}
use Rattle.core_semantics.specs.Steps.{todo_step}
use Rattle.core_semantics.specs.Steps.{top, unlocked, unstored, with_inner, with_lock, within, written}
use Rattle.std.proofs.lemmas.Bool.{eqb-true, and_parts}
use Rattle.witness_build_apart_laws.specs.Apart.{ReadAlike}
use Rattle.core_semantics.specs.Changes.{Change, Loud, Quiet, Stores, is_plain, is_plain_kind, op_change, stored_in}
use Rattle.witness_build_apart_laws.specs.Stores.{ArePlain}
use Rattle.core_semantics.specs.Changes.{todo_change, frame_change}
use Rattle.witness_build_apart_laws.proofs.Steps.{at, spot}

-- what a change leaves: it reads the same but in the field, and plain fields are plain still
abbrev Keeps : Core → (Object → FieldId → Bool) → Store → Store → Type 0
Keeps core but a b = ReadAlike core but a b × ArePlain core b

abbrev nowhere : Object → FieldId → Bool
nowhere o f = false

abbrev only : Object → FieldId → Object → FieldId → Bool
only p g o f = same_object p o && same_field g f

abbrev pub IsChanged : Core → Store → Change → Store → Type 0
IsChanged core a Quiet b = Keeps core nowhere a b
IsChanged core a (Stores p g) b = Keeps core (only p g) a b
IsChanged core a Loud b = Unit {0}

same-store : (core : Core) (a : Store) → ArePlain core a → Keeps core nowhere a a
same-store core a plain = (record { fresh = refl; heap = refl; reads = λ o f e. refl }, plain)

unchanged : (core : Core) (a : Store) (c : Change) → ArePlain core a → IsChanged core a c a
unchanged core a Quiet plain = same-store core a plain
unchanged core a (Stores p g) plain = (record { fresh = refl; heap = refl; reads = λ o f e. refl }, plain)
unchanged core a Loud plain = tt

-- what is read behind a store, by whether it is of the field
abbrev read_if : Bool → Core → Store → Value → Object → FieldId → Value
read_if c core a v p g =
    elim (cond c (Some v) (a.cells p g)) [ None ↦ unstored a.heap (kind_of core g) p g | Some w ↦ w ]

away : (core : Core) (a : Store) (v : Value) (p : Object) (g : FieldId) (c : Bool) → c ≡ false →
    read core a p g ≡ read_if c core a v p g
away core a v p g true e = absurd cc
away core a v p g false e = refl

stays-plain : (core : Core) (a : Store) (v : Value) (p : Object) (g : FieldId) (c : Bool) →
    (c ≡ true → v ≡ Plain) → read core a p g ≡ Plain → read_if c core a v p g ≡ Plain
stays-plain core a v p g true is e = is refl
stays-plain core a v p g false is e = e

plain-value : (v : Value) → is_plain v ≡ true → v ≡ Plain
plain-value Plain e = refl
plain-value Opaque e = absurd cc
plain-value Null e = absurd cc
plain-value (Ref o) e = absurd cc

pub kind-same : (core : Core) (f g : FieldId) (b : Bool) → (b && same_field f g) ≡ true →
    kind_of core f ≡ kind_of core g
kind-same core f g b e =
    let numbers : f.0 ≡ g.0 = eqb-true f.0 g.0 (and_parts b (same_field f g) e).1 in
    ap (λ (n : ℕ). let h : FieldId = record { 0 = n } in kind_of core h) numbers

-- a plain value in a field of a primitive type
quiet-read : (core : Core) (a : Store) (p : Object) (g : FieldId) (c : Bool) →
    (c ≡ true → read core a p g ≡ Plain) → read core a p g ≡ read_if c core a Plain p g
quiet-read core a p g true is = is refl
quiet-read core a p g false is = refl

quiet-written : (core : Core) (a : Store) (o : Object) (f : FieldId) (v : Value) → v ≡ Plain →
    is_plain_kind (kind_of core f) ≡ true → ArePlain core a → Keeps core nowhere a (written a o f v)
quiet-written core a o f v is kind plain =
    subst (λ (w : Value). Keeps core nowhere a (written a o f w)) (sym is) (
      record {
        fresh = refl;
        heap = refl;
        reads = λ p g e. quiet-read core a p g (same_object o p && same_field f g) (λ same.
            plain p g (ap is_plain_kind (sym (kind-same core f g (same_object o p) same)) ∙ kind));
      },
      λ p g e. stays-plain core a Plain p g (same_object o p && same_field f g) (λ _. refl) (plain p g e),
    )

-- any value in a field of another type
kept-plain : (core : Core) (a : Store) (o : Object) (f : FieldId) (v : Value) →
    is_plain_kind (kind_of core f) ≡ false → ArePlain core a → ArePlain core (written a o f v)
kept-plain core a o f v kind plain p g e =
    stays-plain core a v p g (same_object o p && same_field f g)
    (λ same. absurd (clash (sym kind ∙ ap is_plain_kind (kind-same core f g (same_object o p) same) ∙ e)))
    (plain p g e)
  where
    clash : false ≡ true → ⊥
    clash h = absurd cc

other-written : (core : Core) (a : Store) (o : Object) (f : FieldId) (v : Value) →
    is_plain_kind (kind_of core f) ≡ false → ArePlain core a → Keeps core (only o f) a (written a o f v)
other-written core a o f v kind plain = (
  record {
    fresh = refl;
    heap = refl;
    reads = λ p g e. away core a v p g (same_object o p && same_field f g) e;
  },
  kept-plain core a o f v kind plain,
)

written-changed : (core : Core) (a : Store) (o : Object) (f : FieldId) (v : Value) → ArePlain core a →
    IsChanged core a (stored_in core f v (Ref o)) (written a o f v)
written-changed core a o f v plain =
    elim (is_plain_kind (kind_of core f)) as (λ k. is_plain_kind (kind_of core f) ≡ k →
    IsChanged core a (cond k (cond (is_plain v) Quiet Loud) (Stores o f)) (written a o f v)) [
      | true ↦ λ kind. (elim (is_plain v) as (λ q. is_plain v ≡ q →
          IsChanged core a (cond q Quiet Loud) (written a o f v)) [
            | true ↦ λ is. quiet-written core a o f v (plain-value v is) kind plain
            | false ↦ λ is. tt
          ]) refl
      | false ↦ λ kind. other-written core a o f v kind plain
    ] refl

-- ---- one operation, and a step of a thread

abbrev InnerChanged : Core → Store → Change → Next Inner → Type 0
InnerChanged core a c (Goes i) = IsChanged core a c i.store
InnerChanged core a c _ = Unit {0}

put-changed : (core : Core) (a : Store) (f : Frame) (x : FieldId) (v : Value) → ArePlain core a →
    InnerChanged core a (stored_in core x (top f) v) (on_base (base_of v) (put (at a f) x))
put-changed core a f x Plain plain = tt
put-changed core a f x Opaque plain = tt
put-changed core a f x Null plain = tt
put-changed core a f x (Ref o) plain = written-changed core a o x (top f) plain

get-changed : (core : Core) (a : Store) (f : Frame) (x : FieldId) (r : Result Object Why) → ArePlain core a →
    InnerChanged core a Quiet (on_base r (λ o. Goes (at a (replaced f 1 (read core a o x)))))
get-changed core a f x (Ok o) plain = same-store core a plain
get-changed core a f x (Err why) plain = tt

inner-changed : (core : Core) (a : Store) (f : Frame) (op : CoreOp) → ArePlain core a →
    InnerChanged core a (op_change core f op) (inner_step core (at a f) op)
inner-changed core a f (Push v) plain = same-store core a plain
inner-changed core a f (PushClass c) plain = same-store core a plain
inner-changed core a f PushPrim plain = same-store core a plain
inner-changed core a f PushNull plain = same-store core a plain
inner-changed core a f (New c) plain = tt
inner-changed core a f Dup plain = same-store core a plain
inner-changed core a f Drop plain = same-store core a plain
inner-changed core a f (Get x) plain = get-changed core a f x (base_of (top f)) plain
inner-changed core a f (Put x) plain = put-changed core a f x (slot_of f 1) plain
inner-changed core a f (Set v) plain = same-store core a plain
inner-changed core a f (Prim n) plain = same-store core a plain
inner-changed core a f (Outside n) plain = same-store core a plain
inner-changed core a f (Call m n) plain = tt
inner-changed core a f (UnreadCall m n) plain = tt
inner-changed core a f Ret plain = tt
inner-changed core a f Throw plain = tt

abbrev pub AfterChanged : Core → Store → Change → Next After → Type 0
AfterChanged core a c (Goes b) = IsChanged core a c b.store
AfterChanged core a c _ = Unit {0}

within-changed : (core : Core) (a : Store) (c : Change) (f : Frame) (callers : List Frame) (locks : List Holder)
    (m : Next Inner) → InnerChanged core a c m →
    AfterChanged core a c (within (λ i. after (with_inner (spot a f callers locks) i)) m)
within-changed core a c f callers locks (Goes i) h = h
within-changed core a c f callers locks (Sticks w) h = tt
within-changed core a c f callers locks (Waits w) h = tt
within-changed core a c f callers locks Ends h = tt

entered-changed : (core : Core) (a : Store) (f : Frame) (callers : List Frame) (locks : List Holder) (method : Method)
    (n : ℕ) (r : Result Object Why) → ArePlain core a →
    AfterChanged core a Quiet (on_base r (λ o. entering (spot a f callers locks) method n))
entered-changed core a f callers locks method n (Ok o) plain = same-store core a plain
entered-changed core a f callers locks method n (Err why) plain = tt

method-changed : (core : Core) (a : Store) (f : Frame) (callers : List Frame) (locks : List Holder) (method : Method)
    (n : ℕ) → ArePlain core a → AfterChanged core a Quiet (called_method (spot a f callers locks) method n)
method-changed core a f callers locks method n plain =
    elim method.is_static as (λ c. AfterChanged core a Quiet
    (cond c (entering (spot a f callers locks) method n)
    (on_base (base_of (slice_index_or (passed_from f n) 0 Null)) (λ o. entering (spot a f callers locks) method n)))) [
      | true ↦ same-store core a plain
      | false ↦
          entered-changed core a f callers locks method n (base_of (slice_index_or (passed_from f n) 0 Null)) plain
    ]

called-changed : (core : Core) (a : Store) (f : Frame) (callers : List Frame) (locks : List Holder) (m : MethodId)
    (n : ℕ) → ArePlain core a → AfterChanged core a Quiet (called core (spot a f callers locks) m n)
called-changed core a f callers locks m n plain =
    elim (method_at core m) as (λ found. AfterChanged core a Quiet
    (elim found as (λ _. Next After) [
      | None ↦ Sticks UnreadWhy
      | Some method ↦
          called_method (spot a f callers locks) method n
    ])) [
      | None ↦ tt
      | Some method ↦ method-changed core a f callers locks method n plain
    ]

returned-changed : (core : Core) (a : Store) (f : Frame) (callers : List Frame) (locks : List Holder) →
    ArePlain core a → AfterChanged core a Quiet (returned (spot a f callers locks))
returned-changed core a f [] locks plain = same-store core a plain
returned-changed core a f (c ∷ callers) locks plain = same-store core a plain

op-changed : (core : Core) (a : Store) (f : Frame) (callers : List Frame) (locks : List Holder) (op : CoreOp) →
    ArePlain core a → AfterChanged core a (op_change core f op) (op_step core (spot a f callers locks) op)
op-changed core a f callers locks (Call m n) plain = called-changed core a f callers locks m n plain
op-changed core a f callers locks Ret plain = returned-changed core a f callers locks plain
op-changed core a f callers locks op plain =
    within-changed core a (op_change core f op) f callers locks (inner_step core (at a f) op)
    (inner-changed core a f op plain)

abbrev with_steps : Frame → List Todo → Frame
with_steps f todo = record f { todo = todo }

operated-changed : (core : Core) (a : Store) (f : Frame) (callers : List Frame) (locks : List Holder)
    (rest : List Todo) (op : CoreOp) → ArePlain core a →
    AfterChanged core a (op_change core f op) (operated core (spot a f callers locks) rest op)
operated-changed core a f callers locks rest op plain =
    elim (is_return op && nat_lt 0 f.locked) as (λ c. AfterChanged core a (op_change core f op)
    (cond c (Goes (after (unlocked (spot a f callers locks))))
    (op_step core (spot a (with_steps f rest) callers locks) op))) [
      | true ↦ unchanged core a (op_change core f op) plain
      | false ↦ moved op
    ]
  where
    moved : (op : CoreOp) →
        AfterChanged core a (op_change core f op) (op_step core (spot a (with_steps f rest) callers locks) op)
    moved (Put x) = op-changed core a (with_steps f rest) callers locks (Put x) plain
    moved (New c) = op-changed core a (with_steps f rest) callers locks (New c) plain
    moved o = op-changed core a (with_steps f rest) callers locks o plain

lock-changed : (core : Core) (a : Store) (f : Frame) (callers : List Frame) (locks others : List Holder) (body : Tree)
    (r : Result Holder Why) → ArePlain core a →
    AfterChanged core a Quiet (lock_with others (spot a f callers locks) body r)
lock-changed core a f callers locks others body (Err why) plain = tt
lock-changed core a f callers locks others body (Ok monitor) plain =
    elim (list_any (λ held. same_monitor held monitor) others) as (λ c. AfterChanged core a Quiet
    (cond c (Waits monitor) (Goes (after (with_lock (spot a f callers locks) body monitor))))) [
      | true ↦ tt
      | false ↦ same-store core a plain
    ]

todo-changed : (core : Core) (turn : Turn) (a : Store) (f : Frame) (callers : List Frame) (locks others : List Holder)
    (todo : List Todo) → ArePlain core a →
    AfterChanged core a (elim (slice_get todo 0) as (λ _. Change) [ None ↦ Quiet | Some x ↦ todo_change core f x ])
    (todo_step core turn others (spot a f callers locks) todo)
todo-changed core turn a f callers locks others [] plain = tt
todo-changed core turn a f callers locks others (Op place op ∷ rest) plain =
    operated-changed core a f callers locks rest op plain
todo-changed core turn a f callers locks others (Choice left right ∷ rest) plain = same-store core a plain
todo-changed core turn a f callers locks others (Loop body ∷ rest) plain = same-store core a plain
todo-changed core turn a f callers locks others (Sync lock body ∷ rest) plain =
    lock-changed core a (with_steps f rest) callers locks others body (monitor_of lock.kind (top f)) plain
todo-changed core turn a f callers locks others (Unlock ∷ rest) plain = same-store core a plain

pub thread-changed : (core : Core) (turn : Turn) (others : List Holder) (a : Store) (frames : List Frame)
    (locks : List Holder) → ArePlain core a →
    AfterChanged core a (frame_change core (slice_get frames 0))
    (thread_step core turn others a (record { frames = frames; locks = locks }))
thread-changed core turn others a [] locks plain = tt
thread-changed core turn others a (f ∷ callers) locks plain =
    todo-changed core turn a f callers locks others f.todo plain
