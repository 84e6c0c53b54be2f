-- Each step of a thread keeps that each monitor is held by one thread at most.
use Rattle.std.proofs.Common.{◌≡◌, ℕ, zero, suc, Bool, true, false, cond, ◌&&◌, ◌||◌, List, [], ◌∷◌, Option, None, Some}
use Rattle.std.proofs.Common.{refl, sym, ap, subst, ◌∙◌, drop, nat_eq, nat_lt, slice_index_or, Result, Ok, Err}
use Rattle.std.specs.Option.{option_and_then}
use Rattle.std.proofs.Math.Bool.{and-false}
use Rattle.racer_base.specs.declared.ids.MethodId.{MethodId}
use Rattle.core_code.specs.declared.code.Op.{Op as CoreOp}
use Rattle.core_code.specs.declared.code.Op.TheVariants.{Push, PushClass, PushPrim, PushNull, New, Dup, Drop, Get, Put}
use Rattle.core_code.specs.declared.code.Op.TheVariants.{Set, Prim, Outside, Call, Unread, Ret, Throw}
use Rattle.core_code.specs.Calls.{method_at}
use Rattle.core_code.specs.Core.{Core, Method}
use Rattle.core_code.specs.Tree.{Tree, is_return}
use Rattle.core_semantics.specs.declared.answer.Holder.{Holder}
use Rattle.core_semantics.specs.declared.answer.Turn.{Turn}
use Rattle.core_semantics.specs.declared.answer.Turn.TheVariants.{Right}
use Rattle.core_semantics.specs.declared.answer.Why.{Why}
use Rattle.core_semantics.specs.declared.answer.Why.TheVariants.{UnreadCall}
use Rattle.core_semantics.specs.declared.object.Object.{Object}
use Rattle.core_semantics.specs.declared.object.Start.{Start}
use Rattle.core_semantics.specs.declared.object.Value.TheVariants.{Null}
use Rattle.core_semantics.specs.Legs.{Leg, Ran, Came, Halted, NoTurn, one_step_more, run, run_leg, runs, went, whole}
use Rattle.core_semantics.specs.Objects.{same_monitor}
use Rattle.core_semantics.specs.Runs.{begun, given_to, wants_turn}
use Rattle.core_semantics.specs.SameMonitor.{same_monitor-laws}
use Rattle.core_semantics.specs.State.{State, Store, Thread, Todo, Op, Choice, Loop, Sync, Unlock}
use Rattle.core_semantics.specs.State.{other_of, thread_of}
use Rattle.core_semantics.specs.Steps.{After, Inner, Next, Goes, Sticks, Waits, Ends, Spot, after, base_of}
use Rattle.core_semantics.specs.Steps.{called, called_method, ended_with, entered, entering, frame_step, inner}
use Rattle.core_semantics.specs.Steps.{inner_step}
use Rattle.core_semantics.specs.Steps.{lock_with, locking, monitor_of, on_base, on_object, op_step, operated}
use Rattle.core_semantics.specs.Steps.{passed_from, replaced, returned, step, thread_step, todo_step, top}
use Rattle.core_semantics.specs.Steps.{unlocked, with_inner, with_lock, with_todo, within}
use Rattle.core_semantics_laws.specs.Monitors.{HaveOneHolder, HaveOneHolderIn, Move, is_among, made, moved}

-- ---- monitors among others

-- none of these monitors is among the others
abbrev AreFree : List Holder → List Holder → Type 0
AreFree others locks = (m : Holder) → (is_among m others && is_among m locks) ≡ false

swapped : (a b : Bool) → (a && b) ≡ false → (b && a) ≡ false
swapped true true e = e
swapped true false e = refl
swapped false true e = refl
swapped false false e = refl

later-part : (a b c : Bool) → (a && (b || c)) ≡ false → (a && c) ≡ false
later-part true true c e = absurd cc
later-part true false c e = e
later-part false b c e = refl

-- without the innermost monitor
fewer-free : (others locks : List Holder) → AreFree others locks → AreFree others (drop 1 locks)
fewer-free others [] free = λ m. and-false (is_among m others)
fewer-free others (l ∷ locks) free = λ m.
    later-part (is_among m others) (same_monitor l m) (is_among m locks) (free m)

-- what is the same as one of two monitors that are the same is the same as the other
same-both : (held a b : Holder) → same_monitor a b ≡ true → same_monitor held a ≡ same_monitor held b
same-both held a b same =
    elim (same_monitor held a) as (λ x. same_monitor held a ≡ x → x ≡ same_monitor held b) [
      | true ↦ λ e. sym (same_monitor-laws.trans held a b e same)
      | false ↦ λ e. elim (same_monitor held b) as (λ y. same_monitor held b ≡ y → false ≡ y) [
        | true ↦ λ f.
            let back : same_monitor b a ≡ true = sym (same_monitor-laws.symm a b) ∙ same in
            let wrong : true ≡ false = sym (same_monitor-laws.trans held b a f back) ∙ e in absurd cc
        | false ↦ λ f. refl
      ] refl
    ] refl

among-both : (others : List Holder) (a b : Holder) → same_monitor a b ≡ true → is_among a others ≡ is_among b others
among-both [] a b same = refl
among-both (held ∷ others) a b same = λ i. same-both held a b same i || among-both others a b same i

one-more : (among : Bool) (here rest : Bool) → (here ≡ true → among ≡ false) → (among && rest) ≡ false →
    (among && (here || rest)) ≡ false
one-more true true rest none free = none refl
one-more true false rest none free = free
one-more false here rest none free = refl

-- with a monitor that is not among the others
more-free : (others locks : List Holder) (monitor : Holder) → is_among monitor others ≡ false →
    AreFree others locks → AreFree others (monitor ∷ locks)
more-free others locks monitor none free = λ m.
    one-more (is_among m others) (same_monitor monitor m) (is_among m locks)
    (λ same. sym (among-both others monitor m same) ∙ none) (free m)

-- ---- steps of a thread

-- behind a step that is made, the thread holds none of the others' monitors
abbrev Keeps : List Holder → Next After → Type 0
Keeps others (Goes a) = AreFree others a.thread.locks
Keeps others (Sticks why) = Unit {0}
Keeps others (Waits monitor) = Unit {0}
Keeps others Ends = Unit {0}

inner-keeps : (others : List Holder) (s : Spot) (n : Next Inner) → AreFree others s.locks →
    Keeps others (within (λ i. after (with_inner s i)) n)
inner-keeps others s (Goes i) free = free
inner-keeps others s (Sticks why) free = tt
inner-keeps others s (Waits monitor) free = tt
inner-keeps others s Ends free = tt

on-keeps : (others : List Holder) (base : Result Object Why) (next : Object → Next After) →
    ((o : Object) → Keeps others (next o)) → Keeps others (on_base base next)
on-keeps others (Ok o) next keeps = keeps o
on-keeps others (Err why) next keeps = tt

method-keeps : (others : List Holder) (s : Spot) (method : Method) (n : ℕ) → AreFree others s.locks →
    Keeps others (called_method s method n)
method-keeps others s method n free =
    elim method.is_static as (λ b. Keeps others (cond b (entering s method n)
    (on_object (slice_index_or (passed_from s.frame n) 0 Null) (λ o. entering s method n)))) [
      | true ↦ free
      | false ↦
          on-keeps others (base_of (slice_index_or (passed_from s.frame n) 0 Null)) (λ o. entering s method n)
          (λ o. free)
    ]

called-keeps : (core : Core) (others : List Holder) (s : Spot) (m : MethodId) (n : ℕ) → AreFree others s.locks →
    Keeps others (called core s m n)
called-keeps core others s m n free =
    elim (method_at core m) as (λ o. Keeps others (elim o as (λ _. Next After) [
      | None ↦ Sticks UnreadCall
      | Some method ↦ called_method s method n
    ])) [
      | None ↦ tt
      | Some method ↦ method-keeps others s method n free
    ]

returned-keeps : (others : List Holder) (s : Spot) → AreFree others s.locks → Keeps others (returned s)
returned-keeps others s free =
    elim s.callers as (λ fs. Keeps others (elim fs as (λ _. Next After) [
      | [] ↦ Goes (ended_with s.store s.locks)
      | ◌∷◌ caller callers ↦ Goes (after (record s { frame = replaced caller 0 (top s.frame); callers = callers }))
    ])) [
      | [] ↦ free
      | ◌∷◌ caller callers ↦ free
    ]

op-keeps : (core : Core) (others : List Holder) (s : Spot) (op : CoreOp) → AreFree others s.locks →
    Keeps others (op_step core s op)
op-keeps core others s (Call m n) free = called-keeps core others s m n free
op-keeps core others s Ret free = returned-keeps others s free
op-keeps core others s (Push v) free = inner-keeps others s (inner_step core (inner s) (Push v)) free
op-keeps core others s (PushClass c) free = inner-keeps others s (inner_step core (inner s) (PushClass c)) free
op-keeps core others s PushPrim free = inner-keeps others s (inner_step core (inner s) PushPrim) free
op-keeps core others s PushNull free = inner-keeps others s (inner_step core (inner s) PushNull) free
op-keeps core others s (New c) free = inner-keeps others s (inner_step core (inner s) (New c)) free
op-keeps core others s Dup free = inner-keeps others s (inner_step core (inner s) Dup) free
op-keeps core others s Drop free = inner-keeps others s (inner_step core (inner s) Drop) free
op-keeps core others s (Get f) free = inner-keeps others s (inner_step core (inner s) (Get f)) free
op-keeps core others s (Put f) free = inner-keeps others s (inner_step core (inner s) (Put f)) free
op-keeps core others s (Set v) free = inner-keeps others s (inner_step core (inner s) (Set v)) free
op-keeps core others s (Prim n) free = inner-keeps others s (inner_step core (inner s) (Prim n)) free
op-keeps core others s (Outside n) free = inner-keeps others s (inner_step core (inner s) (Outside n)) free
op-keeps core others s (Unread m n) free = inner-keeps others s (inner_step core (inner s) (Unread m n)) free
op-keeps core others s Throw free = inner-keeps others s (inner_step core (inner s) Throw) free

operated-keeps : (core : Core) (others : List Holder) (s : Spot) (rest : List Todo) (op : CoreOp) →
    AreFree others s.locks → Keeps others (operated core s rest op)
operated-keeps core others s rest op free =
    elim (is_return op && nat_lt 0 s.frame.locked) as (λ b. Keeps others (cond b (Goes (after (unlocked s)))
    (op_step core (with_todo s rest) op))) [
      | true ↦ fewer-free others s.locks free
      | false ↦ op-keeps core others (with_todo s rest) op free
    ]

locking-keeps : (others : List Holder) (s : Spot) (body : Tree) (monitor : Holder) → AreFree others s.locks →
    Keeps others (locking others s body monitor)
locking-keeps others s body monitor free =
    elim (is_among monitor others) as (λ b. is_among monitor others ≡ b →
    Keeps others (cond b (Waits monitor) (Goes (after (with_lock s body monitor))))) [
      | true ↦ λ e. tt
      | false ↦ λ e. more-free others s.locks monitor e free
    ] refl

lock-keeps : (others : List Holder) (s : Spot) (body : Tree) (r : Result Holder Why) → AreFree others s.locks →
    Keeps others (lock_with others s body r)
lock-keeps others s body (Ok monitor) free = locking-keeps others s body monitor free
lock-keeps others s body (Err why) free = tt

turn-keeps : (core : Core) (turn : Turn) (others : List Holder) (s : Spot) (todo : List Todo) →
    AreFree others s.locks → Keeps others (todo_step core turn others s todo)
turn-keeps core turn others s [] free = tt
turn-keeps core turn others s (Op place op ∷ rest) free = operated-keeps core others s rest op free
turn-keeps core turn others s (Choice left right ∷ rest) free = free
turn-keeps core turn others s (Loop body ∷ rest) free = free
turn-keeps core turn others s (Sync lock body ∷ rest) free =
    lock-keeps others (with_todo s rest) body (monitor_of lock.kind (top s.frame)) free
turn-keeps core turn others s (Unlock ∷ rest) free = fewer-free others s.locks free

thread-keeps : (core : Core) (turn : Turn) (others : List Holder) (store : Store) (thread : Thread) →
    AreFree others thread.locks → Keeps others (thread_step core turn others store thread)
thread-keeps core turn others store thread free =
    elim thread.frames as (λ fs. Keeps others (elim fs as (λ _. Next After) [
      | [] ↦ Ends
      | ◌∷◌ frame callers ↦
          frame_step core turn others
          (record { store = store; frame = frame; callers = callers; locks = thread.locks })
    ])) [
      | [] ↦ tt
      | ◌∷◌ frame callers ↦
          turn-keeps core turn others
          (record { store = store; frame = frame; callers = callers; locks = thread.locks }) frame.todo free
    ]

-- ---- steps of the machine

abbrev OnNext : Next State → Type 0
OnNext (Goes s) = HaveOneHolder s
OnNext (Sticks why) = Unit {0}
OnNext (Waits monitor) = Unit {0}
OnNext Ends = Unit {0}

-- the thread of this number does not hold what the other one holds
apart : (b : Bool) (s : State) → HaveOneHolder s →
    AreFree (cond b s.second s.first).locks (cond b s.first s.second).locks
apart true s one = λ m. swapped (is_among m s.first.locks) (is_among m s.second.locks) (one m)
apart false s one = one

abbrev put_back : Bool → State → After → State
put_back b s a =
    cond b (record { store = a.store; first = a.thread; second = s.second })
    (record { store = a.store; first = s.first; second = a.thread })

together : (b : Bool) (s : State) (a : After) → AreFree (cond b s.second s.first).locks a.thread.locks →
    HaveOneHolder (put_back b s a)
together true s a free = λ m. swapped (is_among m s.second.locks) (is_among m a.thread.locks) (free m)
together false s a free = free

next-keeps : (b : Bool) (s : State) (n : Next After) → Keeps (cond b s.second s.first).locks n →
    OnNext (within (put_back b s) n)
next-keeps b s (Goes a) keeps = together b s a keeps
next-keeps b s (Sticks why) keeps = tt
next-keeps b s (Waits monitor) keeps = tt
next-keeps b s Ends keeps = tt

step-keeps : (core : Core) (s : State) (t : ℕ) (turn : Turn) → HaveOneHolder s → OnNext (step core s t turn)
step-keeps core s t turn one =
    next-keeps (nat_eq t 0) s (thread_step core turn (other_of s t).locks s.store (thread_of s t))
    (thread-keeps core turn (other_of s t).locks s.store (thread_of s t) (apart (nat_eq t 0) s one))

-- ---- runs

abbrev HoldsNone : Thread → Type 0
HoldsNone thread = (m : Holder) → is_among m thread.locks ≡ false

none-held : (core : Core) (t : ℕ) (o : Option Method) → HoldsNone (elim o as (λ _. Thread) [
  | None ↦ record { frames = []; locks = [] }
  | Some method ↦ record { frames = entered method (given_to t method) ∷ []; locks = [] }
])
none-held core t None = λ m. refl
none-held core t (Some method) = λ m. refl

begun-free : (core : Core) (m1 m2 : MethodId) (start : Start) → HaveOneHolder (begun core m1 m2 start)
begun-free core m1 m2 start = λ m.
    ap (λ (b : Bool). b && is_among m (begun core m1 m2 start).second.locks) (none-held core 0 (method_at core m1) m)

made-keeps : (n : Next State) (s : State) → OnNext n → made n ≡ Some s → HaveOneHolder s
made-keeps (Goes next) s one e = let same : next ≡ s = cc in subst HaveOneHolder same one
made-keeps (Sticks why) s one e = absurd cc
made-keeps (Waits monitor) s one e = absurd cc
made-keeps Ends s one e = absurd cc

moved-keeps : (core : Core) (moves : List Move) (from s : State) → HaveOneHolder from → moved core moves from ≡ Some s →
    HaveOneHolder s
moved-keeps core [] from s one e = let same : from ≡ s = cc in subst HaveOneHolder same one
moved-keeps core (m ∷ moves) from s one e =
    elim (made (step core from m.thread m.turn)) as (λ o. made (step core from m.thread m.turn) ≡ o →
    option_and_then (moved core moves) o ≡ Some s → HaveOneHolder s) [
      | None ↦ λ is rest. absurd cc
      | Some next ↦ λ is rest.
          moved-keeps core moves next s
          (made-keeps (step core from m.thread m.turn) next (step-keeps core from m.thread m.turn one) is) rest
    ] refl e

later-keeps : (r : Ran) → HaveOneHolderIn r → HaveOneHolderIn (one_step_more r)
later-keeps (Came to left) one = one
later-keeps (Halted halt at steps) one = one

went-keeps : (rest : State → Ran) (s : State) (n : Next State) → HaveOneHolder s → OnNext n →
    ((next : State) → HaveOneHolder next → HaveOneHolderIn (rest next)) → HaveOneHolderIn (went rest s n)
went-keeps rest s (Goes next) one on keeps = later-keeps (rest next) (keeps next on)
went-keeps rest s (Sticks why) one on keeps = one
went-keeps rest s (Waits monitor) one on keeps = one
went-keeps rest s Ends one on keeps = one

runs-keep : (core : Core) (t n : ℕ) (turns : List Turn) (s : State) → HaveOneHolder s →
    HaveOneHolderIn (runs core t n turns s)
runs-keep core t zero turns s one = one
runs-keep core t (suc n) turns s one =
    elim (wants_turn s t) as (λ b. HaveOneHolderIn (cond b
    (elim turns as (λ _. Ran) [
      | [] ↦ Halted NoTurn s 0
      | ◌∷◌ turn rest ↦ went (runs core t n rest) s (step core s t turn)
    ]) (went (runs core t n turns) s (step core s t Right)))) [
      | true ↦ elim turns as (λ ts. HaveOneHolderIn (elim ts as (λ _. Ran) [
        | [] ↦ Halted NoTurn s 0
        | ◌∷◌ turn rest ↦ went (runs core t n rest) s (step core s t turn)
      ])) [
        | [] ↦ one
        | ◌∷◌ turn rest ↦
            went-keeps (runs core t n rest) s (step core s t turn) one (step-keeps core s t turn one)
            (λ next. runs-keep core t n rest next)
      ]
      | false ↦
          went-keeps (runs core t n turns) s (step core s t Right) one (step-keeps core s t Right one)
          (λ next. runs-keep core t n turns next)
    ]

whole-keeps : (r : Ran) (s : State) → HaveOneHolderIn r → whole r ≡ Some s → HaveOneHolder s
whole-keeps (Came to []) s one e = let same : to ≡ s = cc in subst HaveOneHolder same one
whole-keeps (Came to (turn ∷ turns)) s one e = absurd cc
whole-keeps (Halted halt at steps) s one e = absurd cc

run-keeps : (core : Core) (legs : List Leg) (from s : State) → HaveOneHolder from → run core legs from ≡ Some s →
    HaveOneHolder s
run-keeps core [] from s one e = let same : from ≡ s = cc in subst HaveOneHolder same one
run-keeps core (leg ∷ legs) from s one e =
    elim (run_leg core leg from) as (λ o. run_leg core leg from ≡ o → option_and_then (run core legs) o ≡ Some s →
    HaveOneHolder s) [
      | None ↦ λ is rest. absurd cc
      | Some next ↦ λ is rest.
          run-keeps core legs next s
          (whole-keeps (runs core leg.thread leg.steps leg.turns from) next
          (runs-keep core leg.thread leg.steps leg.turns from one) is) rest
    ] refl e

pub moved-once : (core : Core) (m1 m2 : MethodId) (start : Start) (moves : List Move) (s : State) →
    moved core moves (begun core m1 m2 start) ≡ Some s → HaveOneHolder s
moved-once core m1 m2 start moves s e =
    moved-keeps core moves (begun core m1 m2 start) s (begun-free core m1 m2 start) e

pub leg-once : (core : Core) (m1 m2 : MethodId) (start : Start) (legs : List Leg) (s : State) (t n : ℕ)
    (turns : List Turn) → run core legs (begun core m1 m2 start) ≡ Some s → HaveOneHolderIn (runs core t n turns s)
leg-once core m1 m2 start legs s t n turns e =
    runs-keep core t n turns s
    (run-keeps core legs (begun core m1 m2 start) s (begun-free core m1 m2 start) e)
