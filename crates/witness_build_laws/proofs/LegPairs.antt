-- Two legs, one after the other, in the heap of all start paths.
use Rattle.std.proofs.Common.{◌≡◌, ℕ, zero, suc, true, false, List, [], ◌∷◌, Option, Some, length}
use Rattle.std.proofs.Common.{nat_lt}
use Rattle.std.proofs.Common.{refl, sym, ap, subst, ◌∙◌, slice_get, slice_index_or, arith}
use Rattle.std.proofs.lemmas.Bool.{lt-ltb}
use Rattle.std.specs.Option.{option_and_then}
use Rattle.racer_base.specs.declared.ids.FieldId.{FieldId}
use Rattle.racer_base.specs.declared.ids.MethodId.{MethodId}
use Rattle.racer_base.specs.declared.ids.Touch.{Touch}
use Rattle.racer_base.specs.declared.ids.Touch.TheVariants.{Read, Write}
use Rattle.access_paths.specs.declared.path.Path.{Path}
use Rattle.access_paths.specs.Paths.{last_of}
use Rattle.access_domain.specs.declared.access.Access.{Access}
use Rattle.access_domain.specs.Origins.{field_of, touch_of}
use Rattle.core_code.specs.declared.code.Op.{Op as CoreOp}
use Rattle.core_code.specs.declared.code.Op.TheVariants.{Push, PushClass, PushPrim, PushNull, New, Dup, Drop, Get, Put}
use Rattle.core_code.specs.declared.code.Op.TheVariants.{Set, Prim, Outside, Call, Unread, Ret, Throw}
use Rattle.core_code.specs.Core.{Core, Method}
use Rattle.core_semantics.specs.declared.answer.Holder.{Holder}
use Rattle.core_semantics.specs.declared.object.Object.{Object}
use Rattle.core_semantics.specs.declared.object.Object.TheVariants.{Start as StartOf}
use Rattle.core_semantics.specs.declared.object.Value.{Value}
use Rattle.core_semantics.specs.declared.object.Value.TheVariants.{Null}
use Rattle.core_semantics.specs.Runs.{access_of, frame_touch, given_to}
use Rattle.core_semantics.specs.Runs.{next_touch}
use Rattle.core_semantics.specs.Runs.{op_touch, todo_touch}
use Rattle.core_semantics.specs.State.{Frame, State, Store, Thread, Todo, other_of, thread_of}
use Rattle.core_ways_laws.specs.Ends.{IsAtAccess}
use Rattle.core_ways_laws.specs.Arrivals.{Arrival, arrival_of}
use Rattle.core_ways_laws.specs.Meets.{base_path, base_slot, base_value}
use Rattle.core_ways_laws.specs.Places.{start_object}
use Rattle.core_ways_laws.specs.Quiet.{start_path}

-- ---- what the next step touches

abbrev pub start_of : Path → Object
start_of q = StartOf (start_path q)

accessed : (v : Value) (q : Path) (f : FieldId) (kind : Touch) → v ≡ start_object q →
    access_of v f kind ≡ Some (start_of q, f, kind)
accessed v q f kind e = ap (λ (x : Value). access_of x f kind) e

-- the operation touches the last field of the path, in the object at the base's place on the stack
abbrev TouchesBy : Frame → Path → Touch → CoreOp → Type 0
TouchesBy frame p kind op = (field : FieldId) × (last_of p.fields ≡ Some field)
    × (op_touch frame op ≡ Some (start_of (base_path p), field, kind))

touch-same : (frame : Frame) (p : Path) (f : FieldId) (kind other : Touch) → other ≡ kind →
    slice_index_or frame.stack (base_slot kind) Null ≡ start_object (base_path p) →
    access_of (slice_index_or frame.stack (base_slot other) Null) f other
    ≡ Some (start_of (base_path p), f, kind)
touch-same frame p f kind other same base =
    ap (λ (k : Touch). access_of (slice_index_or frame.stack (base_slot k) Null) f k) same
    ∙ accessed (slice_index_or frame.stack (base_slot kind) Null) (base_path p) f kind base

op-touches : (frame : Frame) (p : Path) (kind : Touch) (op : CoreOp) → touch_of op ≡ Some kind →
    field_of op ≡ last_of p.fields → slice_index_or frame.stack (base_slot kind) Null ≡ start_object (base_path p) →
    TouchesBy frame p kind op
op-touches frame p kind (Get f) touches field base =
    let same : Read ≡ kind = cc in (f, sym field, touch-same frame p f kind Read same base)
op-touches frame p kind (Put f) touches field base =
    let same : Write ≡ kind = cc in (f, sym field, touch-same frame p f kind Write same base)
op-touches frame p kind (Push v) touches field base = absurd cc
op-touches frame p kind (PushClass c) touches field base = absurd cc
op-touches frame p kind PushPrim touches field base = absurd cc
op-touches frame p kind PushNull touches field base = absurd cc
op-touches frame p kind (New c) touches field base = absurd cc
op-touches frame p kind Dup touches field base = absurd cc
op-touches frame p kind Drop touches field base = absurd cc
op-touches frame p kind (Set v) touches field base = absurd cc
op-touches frame p kind (Prim n) touches field base = absurd cc
op-touches frame p kind (Outside n) touches field base = absurd cc
op-touches frame p kind (Call m n) touches field base = absurd cc
op-touches frame p kind (Unread m n) touches field base = absurd cc
op-touches frame p kind Ret touches field base = absurd cc
op-touches frame p kind Throw touches field base = absurd cc

-- the next step of a thread touches the cell of a path, by this kind
pub record TouchesAs (s : State) (t : ℕ) (p : Path) (kind : Touch) : Type 0 where
  pub field : FieldId
  pub last : last_of p.fields ≡ Some field
  pub is : next_touch s t ≡ Some (start_of (base_path p), field, kind)

pub at-access : (core : Core) (m : MethodId) (i : ℕ) (r : Access) (values : List Value) (s : State) (t : ℕ)
    (to : State) (at : IsAtAccess core m i r values s t to) →
    base_value r.kind at.arrival.at ≡ start_object (base_path r.path) → TouchesAs to t r.path r.kind
at-access core m i r values s t to at base =
    let op : CoreOp = at.arrival.op in
    let stack : slice_index_or at.frame.stack (base_slot r.kind) Null ≡ start_object (base_path r.path) =
    ap (λ (vs : List Value). slice_index_or vs (base_slot r.kind) Null) at.stack ∙ base in
    let by : TouchesBy at.frame r.path r.kind op = op-touches at.frame r.path r.kind op at.touches at.field stack in
    record {
      field = by.0;
      last = by.1;
      is =
          ap (λ (o : Option Frame). option_and_then frame_touch o) at.innermost
          ∙ ap (λ (o : Option Todo). option_and_then (todo_touch at.frame) o) at.next
          ∙ by.2;
    }

-- ---- one leg and then the other

-- where the way to a record of a method leads from a store that is as it should be, the store is so, and the base of
-- the access is the start object of the base of the record's path
abbrev pub LegLeads : Core → (Store → Type 0) → MethodId → ℕ → Access → Method → ℕ → Type 0
LegLeads core Good m i r method t = (store : Store) (arrival : Arrival) → Good store →
    arrival_of core m i (given_to t method) store ≡ Some arrival →
    Good arrival.at.store × (base_value r.kind arrival.at ≡ start_object (base_path r.path))

none-held : (locks : List Holder) (n : ℕ) → length locks ≡ n → nat_lt 0 n ≡ false → locks ≡ []
none-held [] n e none = refl
none-held (l ∷ locks) zero e none = absurd (omega (arith, e))
none-held (l ∷ locks) (suc n) e none =
    let some : nat_lt 0 (suc n) ≡ true = lt-ltb 0 (suc n) (omega arith) in
    let wrong : true ≡ false = sym some ∙ none in
    absurd cc

-- the thread of an unlocked record holds no monitor
pub unlocked-free : (core : Core) (m : MethodId) (i : ℕ) (r : Access) (values : List Value) (s : State) (t : ℕ)
    (to : State) → IsAtAccess core m i r values s t to → r.locked ≡ false → (thread_of to t).locks ≡ []
unlocked-free core m i r values s t to at unlocked =
    none-held (thread_of to t).locks at.arrival.locks at.locks (at.held ∙ unlocked)

-- one thread is the other of the other
pub record AreOthers (t u : ℕ) : Type 0 where
  pub first : (s : State) → other_of s t ≡ thread_of s u
  pub second : (s : State) → other_of s u ≡ thread_of s t

touch-stays : (s to : State) (t : ℕ) (p : Path) (kind : Touch) → thread_of to t ≡ thread_of s t →
    TouchesAs s t p kind → TouchesAs to t p kind
touch-stays s to t p kind same touches =
    record {
      field = touches.field;
      last = touches.last;
      is = ap (λ (thread : Thread). option_and_then frame_touch (slice_get thread.frames 0)) same ∙ touches.is;
    }

-- behind both legs, both threads are before their accesses
pub both-touch : (core : Core) (Good : Store → Type 0) (t u : ℕ) → AreOthers t u → (m n : MethodId) (i j : ℕ)
    (a b : Access) (f g : Method) (s to end : State) → LegLeads core Good m i a f t → LegLeads core Good n j b g u →
    Good s.store → IsAtAccess core m i a (given_to t f) s t to → IsAtAccess core n j b (given_to u g) to u end →
    TouchesAs end t a.path a.kind × TouchesAs end u b.path b.kind
both-touch core Good t u others m n i j a b f g s to end leads goes good first second =
    let one = leads s.store first.arrival good first.leads in
    let between : Good to.store = subst Good (sym first.store) one.0 in
    let two = goes to.store second.arrival between second.leads in
    let stays : thread_of end t ≡ thread_of to t =
    sym (others.second end) ∙ second.other ∙ others.second to in (
      touch-stays to end t a.path a.kind stays (at-access core m i a (given_to t f) s t to first one.1),
      at-access core n j b (given_to u g) to u end second two.1,
    )
