-- Steps in two heaps, one after another.
use Rattle.std.proofs.Common.{◌≡◌, ℕ, zero, suc, Bool, true, false, cond, List, [], ◌∷◌, ◌++◌, Option, None, Some}
use Rattle.std.proofs.Common.{refl, sym, ap, subst, ◌∙◌, slice_get}
use Rattle.std.specs.Prelude.{Ok}
use Rattle.std.specs.Option.{option_and_then}
use Rattle.racer_base.specs.declared.ids.FieldId.{FieldId}
use Rattle.racer_base.specs.declared.ids.Kind.{Kind}
use Rattle.racer_base.specs.declared.ids.Kind.TheVariants.{Plain as PlainKind, Declared, Other}
use Rattle.racer_base.specs.declared.ids.Touch.TheVariants.{Read}
use Rattle.core_code.specs.declared.code.Op.{Op as CoreOp}
use Rattle.core_code.specs.declared.code.Op.TheVariants.{Get}
use Rattle.core_code.specs.Core.{Core}
use Rattle.core_semantics.specs.declared.answer.Turn.{Turn}
use Rattle.core_semantics.specs.declared.answer.Turn.TheVariants.{Right}
use Rattle.core_semantics.specs.declared.object.Object.{Object}
use Rattle.core_semantics.specs.declared.object.Object.TheVariants.{Start as StartOf, Fresh}
use Rattle.core_semantics.specs.declared.object.StartPath.{StartPath}
use Rattle.core_semantics.specs.declared.object.Value.{Value}
use Rattle.core_semantics.specs.declared.object.Value.TheVariants.{Plain, Opaque, Null, Object as Ref}
use Rattle.core_semantics.specs.Legs.{Ran, Came, Halted, NoTurn, one_step_more, runs, went}
use Rattle.core_semantics.specs.Objects.{lengthened}
use Rattle.core_semantics.specs.Runs.{Access as Touching, access_of, frame_touch, is_turn, next_of}
use Rattle.core_semantics.specs.Runs.{op_touch, todo_touch, wants_turn}
use Rattle.core_semantics.specs.State.{Frame, State, Store, Todo, Op, Choice, Loop, Sync, Unlock, thread_of}
use Rattle.core_semantics.specs.Steps.{Next, Goes, Sticks, Waits, Ends, base_of, kind_of, read, step, top, unstored}
use Rattle.core_semantics.specs.Steps.{within}
use Rattle.core_ways.specs.Marks.{given_by, next_read, paths_in, reads, reads_on}
use Rattle.witness_build_laws.specs.Heaps.{HasAll, Heap, ran_in, state_in, store_in}
use Rattle.witness_build_laws.proofs.SameSteps.{NextReadsSame, ReadsSame, ThreadReadsSame, step-same}

-- ---- all of two lists

pub all-first : (heap : Heap) (xs ys : List StartPath) → HasAll heap (xs ++ ys) → HasAll heap xs
all-first heap [] ys all = tt
all-first heap (x ∷ xs) ys all = (all.0, all-first heap xs ys all.1)

pub all-last : (heap : Heap) (xs ys : List StartPath) → HasAll heap (xs ++ ys) → HasAll heap ys
all-last heap [] ys all = all
all-last heap (x ∷ xs) ys all = all-last heap xs ys all.1

-- ---- what is read in two heaps

abbrev one_of : StartPath → List FieldId → List StartPath
one_of p fields = elim fields [ [] ↦ [] | ◌∷◌ f fs ↦ p ∷ [] ]

longer : (p : StartPath) (fields : List FieldId) (f : FieldId) → one_of p (fields ++ f ∷ []) ≡ p ∷ []
longer p [] f = refl
longer p (g ∷ fields) f = refl

admitted-same : (heap full : Heap) (p : StartPath) (f : FieldId) → full (lengthened p f) ≡ true →
    HasAll heap (paths_in (cond (full (lengthened p f)) (Ref (StartOf (lengthened p f))) Null)) →
    cond (heap (lengthened p f)) (Ref (StartOf (lengthened p f))) Null
    ≡ cond (full (lengthened p f)) (Ref (StartOf (lengthened p f))) Null
admitted-same heap full p f there all =
    let q : StartPath = lengthened p f in
    let given : HasAll heap (one_of q (p.fields ++ f ∷ [])) =
    subst (λ b. HasAll heap (paths_in (cond b (Ref (StartOf q)) Null))) there all in
    let has : HasAll heap (q ∷ []) = subst (HasAll heap) (longer q p.fields f) given in
    ap (λ b. cond b (Ref (StartOf q)) Null) (has.0 ∙ sym there)

unstored-same : (heap full : Heap) (kind : Kind) (o : Object) (f : FieldId) → ((p : StartPath) → full p ≡ true) →
    HasAll heap (paths_in (unstored full kind o f)) → unstored heap kind o f ≡ unstored full kind o f
unstored-same heap full PlainKind o f there all = refl
unstored-same heap full Other (StartOf p) f there all = refl
unstored-same heap full Other (Fresh n) f there all = refl
unstored-same heap full (Declared c) (Fresh n) f there all = refl
unstored-same heap full (Declared c) (StartOf p) f there all = admitted-same heap full p f (there (lengthened p f)) all

abbrev stored_or : Option Value → Value → Value
stored_or cell value = elim cell [ None ↦ value | Some v ↦ v ]

stored-same : (heap full : Heap) (kind : Kind) (o : Object) (f : FieldId) (cell : Option Value) →
    ((p : StartPath) → full p ≡ true) → HasAll heap (paths_in (stored_or cell (unstored full kind o f))) →
    stored_or cell (unstored heap kind o f) ≡ stored_or cell (unstored full kind o f)
stored-same heap full kind o f None there all = unstored-same heap full kind o f there all
stored-same heap full kind o f (Some v) there all = refl

-- the same value is read where it is no start path or one of the heap
read-same : (core : Core) (heap : Heap) (store : Store) (o : Object) (f : FieldId) →
    ((p : StartPath) → store.heap p ≡ true) → HasAll heap (paths_in (read core store o f)) →
    read core (store_in heap store) o f ≡ read core store o f
read-same core heap store o f there all =
    stored-same heap store.heap (kind_of core f) o f (store.cells o f) there all

-- ---- the next step

abbrev given : Core → State → Option Touching → List StartPath
given core s o = elim o [ None ↦ [] | Some touching ↦ given_by core s touching ]

touched : (v : Value) (o : Object) (f : FieldId) → base_of v ≡ Ok o → access_of v f Read ≡ Some (o, f, Read)
touched Plain o f e = absurd cc
touched Opaque o f e = absurd cc
touched Null o f e = absurd cc
touched (Ref p) o f e =
    let same : p ≡ o = cc in
    ap (λ (x : Object). let a : Option Touching = Some (x, f, Read) in a) same

get-same : (core : Core) (heap : Heap) (s : State) (frame : Frame) (op : CoreOp) →
    ((p : StartPath) → s.store.heap p ≡ true) →
    ((f : FieldId) (o : Object) → op ≡ Get f → base_of (top frame) ≡ Ok o →
    HasAll heap (given core s (Some (o, f, Read)))) →
    ReadsSame core heap s.store frame op
get-same core heap s frame op there all f o is base = read-same core heap s.store o f there (all f o is base)

next-same : (core : Core) (heap : Heap) (s : State) (frame : Frame) (todo : List Todo) →
    ((p : StartPath) → s.store.heap p ≡ true) →
    frame.todo ≡ todo → HasAll heap (given core s (frame_touch frame)) →
    NextReadsSame core heap s.store frame todo
next-same core heap s frame [] there is all = tt
next-same core heap s frame (Choice left right ∷ rest) there is all = tt
next-same core heap s frame (Loop body ∷ rest) there is all = tt
next-same core heap s frame (Sync lock body ∷ rest) there is all = tt
next-same core heap s frame (Unlock ∷ rest) there is all = tt
next-same core heap s frame (Op place op ∷ rest) there is all =
    get-same core heap s frame op there (λ f o get base.
    subst (λ (a : Option Touching). HasAll heap (given core s a))
    (ap (λ (ts : List Todo). option_and_then (todo_touch frame) (slice_get ts 0)) is
    ∙ ap (op_touch frame) get ∙ touched (top frame) o f base) all)

frames-read : (core : Core) (heap : Heap) (s : State) (frames : List Frame) →
    ((p : StartPath) → s.store.heap p ≡ true) →
    HasAll heap (given core s (option_and_then frame_touch (slice_get frames 0))) →
    ThreadReadsSame core heap s.store frames
frames-read core heap s [] there all = tt
frames-read core heap s (frame ∷ callers) there all = next-same core heap s frame frame.todo there refl all

-- a step in a heap that has what it reads
pub step-in : (core : Core) (heap : Heap) (s : State) (t : ℕ) (turn : Turn) →
    ((p : StartPath) → s.store.heap p ≡ true) →
    HasAll heap (next_read core s t) → step core (state_in heap s) t turn ≡ within (state_in heap) (step core s t turn)
step-in core heap s t turn there all =
    step-same core heap s t turn (frames-read core heap s (thread_of s t).frames there all)

-- ---- the heap stays

own-reads : (core : Core) (store : Store) (frame : Frame) (todo : List Todo) →
    NextReadsSame core store.heap store frame todo
own-reads core store frame [] = tt
own-reads core store frame (Choice left right ∷ rest) = tt
own-reads core store frame (Loop body ∷ rest) = tt
own-reads core store frame (Sync lock body ∷ rest) = tt
own-reads core store frame (Unlock ∷ rest) = tt
own-reads core store frame (Op place op ∷ rest) = λ f o is base. refl

own-frames : (core : Core) (store : Store) (frames : List Frame) → ThreadReadsSame core store.heap store frames
own-frames core store [] = tt
own-frames core store (frame ∷ callers) = own-reads core store frame frame.todo

pub heap-stays : (core : Core) (s next : State) (t : ℕ) (turn : Turn) → step core s t turn ≡ Goes next →
    next.store.heap ≡ s.store.heap
heap-stays core s next t turn goes =
    let same : step core s t turn ≡ within (state_in s.store.heap) (step core s t turn) =
    step-same core s.store.heap s t turn (own-frames core s.store (thread_of s t).frames) in
    let kept : Goes next ≡ Goes (state_in s.store.heap next) =
    sym goes ∙ same ∙ ap (within (state_in s.store.heap)) goes in
    ap (heap_of s.store.heap) kept
  where
    heap_of : Heap → Next State → Heap
    heap_of heap (Goes x) = x.store.heap
    heap_of heap (Sticks why) = heap
    heap_of heap (Waits monitor) = heap
    heap_of heap Ends = heap

-- ---- so many steps

ran-later : (heap : Heap) (r : Ran) → one_step_more (ran_in heap r) ≡ ran_in heap (one_step_more r)
ran-later heap (Came to left) = refl
ran-later heap (Halted halt at steps) = refl

-- steps that are made from each next state go on the same way
abbrev GoSame : Core → Heap → ℕ → ℕ → Type 0
GoSame core heap t n = (turns : List Turn) (s : State) → ((p : StartPath) → s.store.heap p ≡ true) →
    HasAll heap (reads core t n turns s) → runs core t n turns (state_in heap s) ≡ ran_in heap (runs core t n turns s)

went-same : (core : Core) (heap : Heap) (t n : ℕ) (turns : List Turn) (s : State) (next : Next State) →
    ((x : State) → next ≡ Goes x → (p : StartPath) → x.store.heap p ≡ true) → GoSame core heap t n →
    HasAll heap (reads_on (reads core t n turns) next) →
    went (runs core t n turns) (state_in heap s) (within (state_in heap) next)
    ≡ ran_in heap (went (runs core t n turns) s next)
went-same core heap t n turns s (Goes x) full ih all =
    ap one_step_more (ih turns x (full x refl) all) ∙ ran-later heap (runs core t n turns x)
went-same core heap t n turns s (Sticks why) full ih all = refl
went-same core heap t n turns s (Waits monitor) full ih all = refl
went-same core heap t n turns s Ends full ih all = refl

one-same : (core : Core) (heap : Heap) (t n : ℕ) (turns : List Turn) (s : State) (turn : Turn) →
    ((p : StartPath) → s.store.heap p ≡ true) → GoSame core heap t n → HasAll heap (next_read core s t) →
    HasAll heap (reads_on (reads core t n turns) (step core s t turn)) →
    went (runs core t n turns) (state_in heap s) (step core (state_in heap s) t turn)
    ≡ ran_in heap (went (runs core t n turns) s (step core s t turn))
one-same core heap t n turns s turn there ih here all =
    ap (went (runs core t n turns) (state_in heap s)) (step-in core heap s t turn there here)
    ∙ went-same core heap t n turns s (step core s t turn)
    (λ x goes p. ap (λ (h : Heap). h p) (heap-stays core s x t turn goes) ∙ there p) ih all

-- ---- a turn reads nothing

abbrev at_turn : Option Todo → Bool
at_turn o = elim o [ None ↦ false | Some todo ↦ is_turn todo ]

abbrev touch_first : Frame → List Todo → Option Touching
touch_first frame todo = option_and_then (todo_touch frame) (slice_get todo 0)

none-at-turn : (core : Core) (s : State) (frame : Frame) (todo : List Todo) → at_turn (slice_get todo 0) ≡ true →
    given core s (touch_first frame todo) ≡ []
none-at-turn core s frame [] e = absurd cc
none-at-turn core s frame (Op place op ∷ rest) e = absurd cc
none-at-turn core s frame (Choice left right ∷ rest) e = refl
none-at-turn core s frame (Loop body ∷ rest) e = refl
none-at-turn core s frame (Sync lock body ∷ rest) e = absurd cc
none-at-turn core s frame (Unlock ∷ rest) e = absurd cc

none-in-frames : (core : Core) (s : State) (frames : List Frame) →
    at_turn (option_and_then next_of (slice_get frames 0)) ≡ true →
    given core s (option_and_then frame_touch (slice_get frames 0)) ≡ []
none-in-frames core s [] e = refl
none-in-frames core s (frame ∷ callers) e = none-at-turn core s frame frame.todo e

turn-reads-none : (core : Core) (s : State) (t : ℕ) → wants_turn s t ≡ true → next_read core s t ≡ []
turn-reads-none core s t e = none-in-frames core s (thread_of s t).frames e

-- ---- a run

abbrev run_taking : Core → Heap → ℕ → ℕ → State → List Turn → Ran
run_taking core heap t n s turns =
    elim turns [ [] ↦ Halted NoTurn s 0 | ◌∷◌ turn rest ↦ went (runs core t n rest) s (step core s t turn) ]

abbrev reads_taking : Core → ℕ → ℕ → State → List Turn → List StartPath
reads_taking core t n s turns =
    elim turns [ [] ↦ [] | ◌∷◌ turn rest ↦ reads_on (reads core t n rest) (step core s t turn) ]

taking-same : (core : Core) (heap : Heap) (t n : ℕ) (turns : List Turn) (s : State) →
    ((p : StartPath) → s.store.heap p ≡ true) → GoSame core heap t n → wants_turn s t ≡ true →
    HasAll heap (reads_taking core t n s turns) →
    run_taking core heap t n (state_in heap s) turns ≡ ran_in heap (run_taking core heap t n s turns)
taking-same core heap t n [] s there ih turn all = refl
taking-same core heap t n (turn ∷ rest) s there ih e all =
    one-same core heap t n rest s turn there ih (subst (HasAll heap) (sym (turn-reads-none core s t e)) tt) all

pub runs-same : (core : Core) (heap : Heap) (t n : ℕ) → GoSame core heap t n
runs-same core heap t zero = λ turns s there all. refl
runs-same core heap t (suc n) = λ turns s there all.
    (elim (wants_turn s t) as (λ b. wants_turn s t ≡ b →
    HasAll heap (cond b (reads_taking core t n s turns)
    (next_read core s t ++ reads_on (reads core t n turns) (step core s t Right))) →
    cond b (run_taking core heap t n (state_in heap s) turns)
    (went (runs core t n turns) (state_in heap s) (step core (state_in heap s) t Right))
    ≡ ran_in heap (cond b (run_taking core heap t n s turns) (went (runs core t n turns) s (step core s t Right)))) [
      | true ↦ λ e has. taking-same core heap t n turns s there (runs-same core heap t n) e has
      | false ↦ λ e has. one-same core heap t n turns s Right there (runs-same core heap t n)
          (all-first heap (next_read core s t) (reads_on (reads core t n turns) (step core s t Right)) has)
          (all-last heap (next_read core s t) (reads_on (reads core t n turns) (step core s t Right)) has)
    ] refl all)

-- ---- the heap stays along a run

later-heap : (heap : Heap) (r : Ran) (to : State) (left : List Turn) → one_step_more r ≡ Came to left → r ≡ Came to left
later-heap heap (Came x left) to rest e = e
later-heap heap (Halted halt at steps) to rest e = absurd cc

went-heap : (core : Core) (t n : ℕ) (turns : List Turn) (s to : State) (left : List Turn) (next : Next State) →
    ((x : State) → next ≡ Goes x → x.store.heap ≡ s.store.heap) →
    ((x : State) → runs core t n turns x ≡ Came to left → to.store.heap ≡ x.store.heap) →
    went (runs core t n turns) s next ≡ Came to left → to.store.heap ≡ s.store.heap
went-heap core t n turns s to left (Goes x) stays ih e =
    ih x (later-heap s.store.heap (runs core t n turns x) to left e) ∙ stays x refl
went-heap core t n turns s to left (Sticks why) stays ih e = absurd cc
went-heap core t n turns s to left (Waits monitor) stays ih e = absurd cc
went-heap core t n turns s to left Ends stays ih e = absurd cc

pub run-heap : (core : Core) (t n : ℕ) (turns : List Turn) (s to : State) (left : List Turn) →
    runs core t n turns s ≡ Came to left → to.store.heap ≡ s.store.heap
run-heap core t zero turns s to left e = let same : s ≡ to = cc in ap (λ (x : State). x.store.heap) (sym same)
run-heap core t (suc n) turns s to left e =
    (elim (wants_turn s t) as (λ b. cond b
    (elim turns as (λ _. Ran) [
      | [] ↦ Halted NoTurn s 0
      | ◌∷◌ turn rest ↦ went (runs core t n rest) s (step core s t turn)
    ]) (went (runs core t n turns) s (step core s t Right)) ≡ Came to left → to.store.heap ≡ s.store.heap) [
      | true ↦ elim turns as (λ ts.
          (elim ts as (λ _. Ran) [
            | [] ↦ Halted NoTurn s 0
            | ◌∷◌ turn rest ↦ went (runs core t n rest) s (step core s t turn)
          ]) ≡ Came to left → to.store.heap ≡ s.store.heap) [
            | [] ↦ λ e. absurd cc
            | ◌∷◌ turn rest ↦
                went-heap core t n rest s to left (step core s t turn)
                (λ x goes. heap-stays core s x t turn goes) (λ x came. run-heap core t n rest x to left came)
          ]
      | false ↦
          went-heap core t n turns s to left (step core s t Right)
          (λ x goes. heap-stays core s x t Right goes) (λ x came. run-heap core t n turns x to left came)
    ]) e
