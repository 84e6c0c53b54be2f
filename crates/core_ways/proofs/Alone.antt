-- Code that is passed, run by one thread beside one that holds no monitor.
use Rattle.std.proofs.Common.{◌≡◌, ℕ, zero, suc, ◌+◌, Bool, true, false, cond, List, [], ◌∷◌, ◌++◌, Option, None, Some}
use Rattle.std.proofs.Common.{◌&&◌, ◌||◌, refl, sym, ap, ◌∙◌, subst, append_assoc, drop, arith, replicate}
use Rattle.std.proofs.lemmas.List.{append-nil}
use Rattle.std.specs.Prelude.{Result, Ok, Err}
use Rattle.racer_base.specs.declared.ids.MethodId.{MethodId}
use Rattle.racer_base.specs.declared.ids.Place.{Place}
use Rattle.core_code.specs.declared.code.Op.{Op as CoreOp}
use Rattle.core_code.specs.declared.code.Op.TheVariants.{Push, PushClass, PushPrim, PushNull, New, Dup, Drop, Get, Put}
use Rattle.core_code.specs.declared.code.Op.TheVariants.{Set, Prim, Outside, Call, Unread as UnreadCall, Ret, Throw}
use Rattle.core_code.specs.Calls.{method_at}
use Rattle.core_code.specs.Core.{Core, Method}
use Rattle.core_code.specs.Tree.{LockAt, Tree}
use Rattle.core_code.specs.Tree.{can_end, steps_of}
use Rattle.core_code.specs.Tree as tree
use Rattle.core_code.specs.Calls.{called_by}
use Rattle.racer_base.specs.declared.ids.SiteId.{SiteId}
use Rattle.std.specs.List.{list_all}
use Rattle.core_ways.proofs.Callees.{do_pass, pass-both}
use Rattle.core_semantics.specs.declared.answer.Holder.{Holder}
use Rattle.core_semantics.specs.declared.answer.Turn.{Turn}
use Rattle.core_semantics.specs.declared.answer.Turn.TheVariants.{Left, Right}
use Rattle.core_semantics.specs.declared.answer.Why.{Why}
use Rattle.core_semantics.specs.declared.answer.Why.TheVariants.{UnreadCall as UnreadWhy}
use Rattle.core_semantics.specs.declared.object.Value.TheVariants.{Null}
use Rattle.std.proofs.Common.{slice_index_or, ◌-◌}
use Rattle.std.proofs.lemmas.Bool.{lt-ltb, or_right, and_parts}
use Rattle.std.proofs.Math.Bool.{or-false}
use Rattle.core_semantics.specs.declared.object.Object.{Object}
use Rattle.core_semantics.specs.declared.object.Value.{Value}
use Rattle.core_semantics.specs.State.{Frame, Store, Todo, Op, Choice, Sync, Unlock, before}
use Rattle.core_semantics.specs.Steps.{After, Inner, Next, Spot, Goes, Sticks, Waits, Ends, after, base_of}
use Rattle.core_semantics.specs.Steps.{lock_with, called_method, entered, entering, going, inner, inner_step}
use Rattle.core_semantics.specs.Steps.{monitor_of, on_base}
use Rattle.core_semantics.specs.Steps.{on_object, op_step, passed_from, put, read, replaced, returned, slot_of, top}
use Rattle.core_semantics.specs.Steps.{unlocked}
use Rattle.core_semantics.specs.Steps.{thread_step, with_inner, with_todo, within}
use Rattle.core_ways.specs.declared.part.WayPart.{WayPart}
use Rattle.core_ways.specs.declared.part.WayPart.TheVariants.{Step, Branched}
use Rattle.core_ways.specs.Alone.{Alone, Came, Stuck, Broken, onward, alone, is_at_turn, ComesTo, LeadsTo, here}
use Rattle.core_ways.specs.Alone.{IsAt, HasReturned, IsBehind, MethodRuns, RunsPast}
use Rattle.core_ways.specs.Ways.{Trip, straight, joined, trip_along, trip_of_part, passed}

-- ---- one run after another

abbrev pub run_on : (After → List Turn → Alone) → Alone → Alone
run_on rest (Came a left) = rest a left
run_on rest (Stuck why) = Stuck why
run_on rest Broken = Broken

stepped : (whole first : After → Alone) (rest : After → List Turn → Alone) (next : Next After) →
    ((b : After) → whole b ≡ run_on rest (first b)) → onward whole next ≡ run_on rest (onward first next)
stepped whole first rest (Goes b) same = same b
stepped whole first rest (Sticks why) same = refl
stepped whole first rest (Waits monitor) same = refl
stepped whole first rest Ends same = refl

pub alone-both : (core : Core) (m n : ℕ) (turns : List Turn) (a : After) →
    alone core (m + n) turns a ≡ run_on (λ b left. alone core n left b) (alone core m turns a)
alone-both core zero n turns a =
    let none : 0 + n ≡ n = omega arith in
    ap (λ (k : ℕ). alone core k turns a) none
alone-both core (suc m) n turns a =
    let one : suc m + n ≡ suc (m + n) = omega arith in
    ap (λ (k : ℕ). alone core k turns a) one
    ∙ elim (is_at_turn a.thread) as (λ b.
    cond b (elim turns as (λ _. Alone) [
      | [] ↦ Broken
      | ◌∷◌ turn rest ↦ onward (alone core (m + n) rest) (thread_step core turn [] a.store a.thread)
    ]) (onward (alone core (m + n) turns) (thread_step core Right [] a.store a.thread)) ≡
    run_on (λ b left. alone core n left b)
    (cond b (elim turns as (λ _. Alone) [
      | [] ↦ Broken
      | ◌∷◌ turn rest ↦ onward (alone core m rest) (thread_step core turn [] a.store a.thread)
    ]) (onward (alone core m turns) (thread_step core Right [] a.store a.thread)))) [
      | true ↦ elim turns as (λ ts.
          (elim ts as (λ _. Alone) [
            | [] ↦ Broken
            | ◌∷◌ turn rest ↦ onward (alone core (m + n) rest) (thread_step core turn [] a.store a.thread)
          ]) ≡
          run_on (λ b left. alone core n left b)
          (elim ts as (λ _. Alone) [
            | [] ↦ Broken
            | ◌∷◌ turn rest ↦ onward (alone core m rest) (thread_step core turn [] a.store a.thread)
          ])) [
            | [] ↦ refl
            | ◌∷◌ turn rest ↦
                stepped (alone core (m + n) rest) (alone core m rest) (λ b left. alone core n left b)
                (thread_step core turn [] a.store a.thread) (alone-both core m n rest)
          ]
      | false ↦
          stepped (alone core (m + n) turns) (alone core m turns) (λ b left. alone core n left b)
          (thread_step core Right [] a.store a.thread) (alone-both core m n turns)
    ]

comes-on : (P Q : After → Type 0) (core : Core) (second rest : List Turn) (n : ℕ) (r : Alone) →
    ((b : After) → P b → LeadsTo core second n b Q) → ComesTo P (second ++ rest) r →
    ComesTo Q rest (run_on (λ b left. alone core n left b) r)
comes-on P Q core second rest n (Came b left) then_on comes =
    subst (λ (ts : List Turn). ComesTo Q rest (alone core n ts b)) (sym comes.0) (then_on b comes.1 rest)
comes-on P Q core second rest n (Stuck why) then_on comes = tt
comes-on P Q core second rest n Broken then_on comes = comes

-- what leads to a place, and what leads on from there
pub leads-on : (core : Core) (P Q : After → Type 0) (first second : List Turn) (m n : ℕ) (a : After) →
    LeadsTo core first m a P → ((b : After) → P b → LeadsTo core second n b Q) →
    LeadsTo core (first ++ second) (m + n) a Q
leads-on core P Q first second m n a leads then_on rest =
    subst (ComesTo Q rest)
    (sym (ap (λ (ts : List Turn). alone core (m + n) ts a) (append_assoc first second rest)
    ∙ alone-both core m n (first ++ (second ++ rest)) a))
    (comes-on P Q core second rest n (alone core m (first ++ (second ++ rest)) a) then_on (leads (second ++ rest)))

-- ---- the parts of both

none-joined : (t : Trip) → t ≡ joined (straight 0) t
none-joined t =
    let steps : t.steps ≡ 0 + t.steps = omega arith in
    (λ i. let made : Trip = record { turns = t.turns; steps = steps i; unread = t.unread } in made)

pub along-both : (trips : MethodId → Trip) (xs ys : List WayPart) →
    trip_along trips (xs ++ ys) ≡ joined (trip_along trips xs) (trip_along trips ys)
along-both trips [] ys = none-joined (trip_along trips ys)
along-both trips (x ∷ xs) ys =
    ap (joined (trip_of_part trips x)) (along-both trips xs ys)
    ∙ joined-assoc (trip_of_part trips x) (trip_along trips xs) (trip_along trips ys)
  where
    joined-assoc : (a b c : Trip) → joined a (joined b c) ≡ joined (joined a b) c
    joined-assoc a b c =
        let steps : a.steps + (b.steps + c.steps) ≡ (a.steps + b.steps) + c.steps = omega arith in
        (λ i. let t : Trip = record {
          turns = sym (append_assoc a.turns b.turns c.turns) i;
          steps = steps i;
          unread = sym (append_assoc a.unread b.unread c.unread) i;
        } in t)

-- ---- one operation

-- the frame goes on with what it has still to do, and holds as many locks
abbrev Keeps : Inner → Next Inner → Type 0
Keeps i (Goes j) = (j.frame.todo ≡ i.frame.todo) × (j.frame.locked ≡ i.frame.locked)
Keeps i (Sticks why) = Unit {0}
Keeps i (Waits monitor) = true ≡ false
Keeps i Ends = true ≡ false

base-keeps : (i : Inner) (r : Result Object Why) (next : Object → Next Inner) → ((o : Object) → Keeps i (next o)) →
    Keeps i (on_base r next)
base-keeps i (Ok o) next keeps = keeps o
base-keeps i (Err why) next keeps = tt

inner-keeps : (core : Core) (i : Inner) (op : CoreOp) → Keeps i (inner_step core i op)
inner-keeps core i (Push v) = (refl, refl)
inner-keeps core i (PushClass c) = (refl, refl)
inner-keeps core i PushPrim = (refl, refl)
inner-keeps core i PushNull = (refl, refl)
inner-keeps core i (New c) = (refl, refl)
inner-keeps core i Dup = (refl, refl)
inner-keeps core i Drop = (refl, refl)
inner-keeps core i (Get f) =
    base-keeps i (base_of (top i.frame)) (λ o. going i (replaced i.frame 1 (read core i.store o f))) (λ o. (refl, refl))
inner-keeps core i (Put f) = base-keeps i (base_of (slot_of i.frame 1)) (put i f) (λ o. (refl, refl))
inner-keeps core i (Set v) = (refl, refl)
inner-keeps core i (Prim n) = (refl, refl)
inner-keeps core i (Outside n) = (refl, refl)
inner-keeps core i (Call m n) = tt
inner-keeps core i (UnreadCall m n) = tt
inner-keeps core i Ret = tt
inner-keeps core i Throw = tt

abbrev pub spot : Store → List Value → List Value → List Todo → ℕ → List Frame → List Holder → Spot
spot store vars stack todo locked callers locks =
    record {
      store = store;
      frame = record { vars = vars; stack = stack; todo = todo; locked = locked };
      callers = callers;
      locks = locks;
    }

comes-inner : (s : Spot) (rest : List Turn) (next : Next Inner) → Keeps (inner s) next →
    ComesTo (IsAt s.frame.todo s.frame.locked s.callers s.locks) rest
    (onward (λ a. Came a rest) (within (λ i. after (with_inner s i)) next))
comes-inner s rest (Goes j) keeps = (
  refl,
  (
    j.store,
    j.frame.vars,
    j.frame.stack,
    (λ n.
        here j.store j.frame.vars j.frame.stack (keeps.0 n) (keeps.1 n) s.callers s.locks),
  ),
)
comes-inner s rest (Sticks why) keeps = tt
comes-inner s rest (Waits monitor) keeps = keeps
comes-inner s rest Ends keeps = keeps

-- one step that takes no turn
abbrev Past : Core → CoreOp → Type 0
Past core op =
    (place : Place) (locked : ℕ) (store : Store) (vars stack : List Value) (todo : List Todo)
    (callers : List Frame) (locks : List Holder) →
    LeadsTo core [] 1 (here store vars stack (Op place op ∷ todo) locked callers locks)
    (IsAt todo locked callers locks)

past-op : (core : Core) (op : CoreOp) (s : Spot) (rest : List Turn) →
    ComesTo (IsAt s.frame.todo s.frame.locked s.callers s.locks) rest
    (onward (λ a. Came a rest) (within (λ i. after (with_inner s i)) (inner_step core (inner s) op)))
past-op core op s rest = comes-inner s rest (inner_step core (inner s) op) (inner-keeps core (inner s) op)

abbrev is_inner : CoreOp → Bool
is_inner (Call m n) = false
is_inner (UnreadCall m n) = false
is_inner Ret = false
is_inner _ = true

pub past-inner : (core : Core) (op : CoreOp) → is_inner op ≡ true → Past core op
past-inner core (Call m n) e = absurd cc
past-inner core (UnreadCall m n) e = absurd cc
past-inner core Ret e = absurd cc
past-inner core op e = λ place locked store vars stack todo callers locks rest.
    past-op core op (spot store vars stack todo locked callers locks) rest

-- ---- returns

pub drop-none : (xs : List Holder) → drop 0 xs ≡ xs
drop-none [] = refl
drop-none (x ∷ xs) = refl

pub drop-more : (n : ℕ) (xs : List Holder) → drop n (drop 1 xs) ≡ drop (suc n) xs
drop-more zero [] = refl
drop-more (suc n) [] = refl
drop-more n (x ∷ xs) = refl

returned-comes : (store : Store) (vars stack : List Value) (todo : List Todo) (callers : List Frame)
    (locks : List Holder) (rest : List Turn) →
    ComesTo (HasReturned callers locks) rest
    (onward (λ a. Came a rest) (returned (spot store vars stack todo 0 callers locks)))
returned-comes store vars stack todo [] locks rest = (refl, (store, refl))
returned-comes store vars stack todo (f ∷ callers) locks rest =
    (refl, (store, slice_index_or stack 0 Null, refl))

-- one step at a return within locks: the innermost is unlocked
unlocks : (core : Core) (place : Place) (n : ℕ) (store : Store) (vars stack : List Value) (todo : List Todo)
    (callers : List Frame) (locks : List Holder) (P : After → Type 0) →
    LeadsTo core [] (suc n) (here store vars stack (Op place Ret ∷ todo) n callers (drop 1 locks)) P →
    LeadsTo core [] (suc (suc n)) (here store vars stack (Op place Ret ∷ todo) (suc n) callers locks) P
unlocks core place n store vars stack todo callers locks P leads rest =
    let s : Spot = spot store vars stack (Op place Ret ∷ todo) (suc n) callers locks in
    subst (λ (b : Bool). ComesTo P rest
    (onward (λ a. alone core (suc n) rest a)
    (cond b (Goes (after (unlocked s))) (op_step core (with_todo s todo) Ret))))
    (sym (lt-ltb 0 (suc n) (omega arith)))
    (subst (λ (k : ℕ). ComesTo P rest
    (alone core (suc n) rest (here store vars stack (Op place Ret ∷ todo) k callers (drop 1 locks))))
    (let one : n ≡ suc n - 1 = omega arith in one) (leads rest))

-- a return within so many locks of its frame
pub past-ret : (core : Core) (place : Place) (locked : ℕ) (store : Store) (vars stack : List Value)
    (todo : List Todo) (callers : List Frame) (locks : List Holder) →
    LeadsTo core [] (suc locked) (here store vars stack (Op place Ret ∷ todo) locked callers locks)
    (HasReturned callers (drop locked locks))
past-ret core place zero store vars stack todo callers locks = λ rest.
    subst (λ (ls : List Holder). ComesTo (HasReturned callers ls) rest
    (alone core 1 rest (here store vars stack (Op place Ret ∷ todo) 0 callers locks))) (sym (drop-none locks))
    (returned-comes store vars stack todo callers locks rest)
past-ret core place (suc n) store vars stack todo callers locks =
    unlocks core place n store vars stack todo callers locks (HasReturned callers (drop (suc n) locks))
    (subst (λ (ls : List Holder). LeadsTo core [] (suc n)
    (here store vars stack (Op place Ret ∷ todo) n callers (drop 1 locks)) (HasReturned callers ls))
    (drop-more n locks) (past-ret core place n store vars stack todo callers (drop 1 locks)))

-- so many steps
pub steps-of : (trips : MethodId → Trip) (n : ℕ) → trip_along trips (replicate n Step) ≡ straight n
steps-of trips zero = refl
steps-of trips (suc n) =
    ap (joined (straight 1)) (steps-of trips n)
    ∙ ap straight (let one : 1 + n ≡ suc n = omega arith in one)

-- ---- calls

-- what the frame that a call enters comes back to
comes-back : (store : Store) (vars stack : List Value) (todo : List Todo) (locked n : ℕ) (callers : List Frame)
    (locks : List Holder) (a : After) →
    HasReturned (record { vars = vars; stack = drop n stack; todo = todo; locked = locked } ∷ callers) locks a →
    IsAt todo locked callers locks a
comes-back store vars stack todo locked n callers locks a r = (r.0, vars, r.1 ∷ drop n stack, r.2)

pub weaker : (P Q : After → Type 0) (rest : List Turn) (r : Alone) → ((a : After) → P a → Q a) → ComesTo P rest r →
    ComesTo Q rest r
weaker P Q rest (Came a left) f c = (c.0, f a c.1)
weaker P Q rest (Stuck why) f c = tt
weaker P Q rest Broken f c = c

enters : (core : Core) (trips : MethodId → Trip) (m : MethodId) (n : ℕ) (place : Place) (locked : ℕ) (store : Store)
    (vars stack : List Value) (todo : List Todo) (callers : List Frame) (locks : List Holder) (rest : List Turn)
    (method : Method) → method_at core m ≡ Some method → MethodRuns core trips m →
    ComesTo (IsAt todo locked callers locks) rest
    (onward (λ a. alone core (trips m).steps ((trips m).turns ++ rest) a)
    (entering (spot store vars stack todo locked callers locks) method n))
enters core trips m n place locked store vars stack todo callers locks rest method is runs =
    let frame : Frame = record { vars = vars; stack = stack; todo = todo; locked = locked } in
    let back : Frame = record { vars = vars; stack = drop n stack; todo = todo; locked = locked } in
    weaker (HasReturned (back ∷ callers) locks) (IsAt todo locked callers locks) rest
    (alone core (trips m).steps ((trips m).turns ++ rest)
    (here store (entered method (passed_from frame n)).vars [] (before method.code []) 0 (back ∷ callers) locks))
    (comes-back store vars stack todo locked n callers locks)
    (runs method is store (entered method (passed_from frame n)).vars (back ∷ callers) locks rest)

on-receiver : (r : Result Object Why) (P : After → Type 0) (rest : List Turn) (f : After → Alone) (next : Next After) →
    ComesTo P rest (onward f next) → ComesTo P rest (onward f (on_base r (λ o. next)))
on-receiver (Ok o) P rest f next comes = comes
on-receiver (Err why) P rest f next comes = tt

calls : (core : Core) (trips : MethodId → Trip) (m : MethodId) (n : ℕ) (place : Place) (locked : ℕ) (store : Store)
    (vars stack : List Value) (todo : List Todo) (callers : List Frame) (locks : List Holder) (rest : List Turn)
    (o : Option Method) → method_at core m ≡ o → MethodRuns core trips m →
    ComesTo (IsAt todo locked callers locks) rest
    (onward (λ a. alone core (trips m).steps ((trips m).turns ++ rest) a)
    (elim o as (λ _. Next After) [
      | None ↦ Sticks UnreadWhy
      | Some method ↦ called_method (spot store vars stack todo locked callers locks) method n
    ]))
calls core trips m n place locked store vars stack todo callers locks rest None is runs = tt
calls core trips m n place locked store vars stack todo callers locks rest (Some method) is runs =
    let s : Spot = spot store vars stack todo locked callers locks in
    let P : After → Type 0 = IsAt todo locked callers locks in
    let f : After → Alone = λ a. alone core (trips m).steps ((trips m).turns ++ rest) a in
    let comes = enters core trips m n place locked store vars stack todo callers locks rest method is runs in
    elim method.is_static as (λ b. ComesTo P rest (onward f
    (cond b (entering s method n)
    (on_object (slice_index_or (passed_from s.frame n) 0 Null) (λ o. entering s method n))))) [
      | true ↦ comes
      | false ↦
          on-receiver (base_of (slice_index_or (passed_from s.frame n) 0 Null)) P rest f (entering s method n) comes
    ]

pub past-call : (core : Core) (trips : MethodId → Trip) (m : MethodId) (n : ℕ) (place : Place) (locked : ℕ)
    (store : Store) (vars stack : List Value) (todo : List Todo) (callers : List Frame) (locks : List Holder) →
    MethodRuns core trips m →
    LeadsTo core (trips m).turns (suc (trips m).steps)
    (here store vars stack (Op place (Call m n) ∷ todo) locked callers locks) (IsAt todo locked callers locks)
past-call core trips m n place locked store vars stack todo callers locks runs rest =
    calls core trips m n place locked store vars stack todo callers locks rest (method_at core m) refl runs

-- ---- turns and locks

abbrev pub Leads : Core → Trip → After → (After → Type 0) → Type 0
Leads core trip a P = LeadsTo core trip.turns trip.steps a P

pub one-more : (core : Core) (turns : List Turn) (n k : ℕ) (a : After) (P : After → Type 0) → suc n ≡ k →
    LeadsTo core turns (suc n) a P → LeadsTo core turns k a P
one-more core turns n k a P same leads = subst (λ (j : ℕ). LeadsTo core turns j a P) same leads

pub past-turn : (core : Core) (trip : Trip) (turn : Turn) (a b : After) (P : After → Type 0) →
    ((rest : List Turn) → alone core (suc trip.steps) (turn ∷ (trip.turns ++ rest)) a ≡
    alone core trip.steps (trip.turns ++ rest) b) → Leads core trip b P →
    Leads core (joined (record { turns = turn ∷ []; steps = 1; unread = [] }) trip) a P
past-turn core trip turn a b P steps leads =
    one-more core (turn ∷ trip.turns) trip.steps (1 + trip.steps) a P (omega arith)
    (λ rest. subst (ComesTo P rest) (sym (steps rest)) (leads rest))

-- behind a lock's body
past-body : (core : Core) (trips : MethodId → Trip) (body : Tree) (todo : List Todo) (locked : ℕ)
    (callers : List Frame) (locks : List Holder) (monitor : Holder) (b : Bool) (a : After) →
    IsBehind b (Unlock ∷ todo) (suc locked) callers (monitor ∷ locks) a →
    Leads core (trip_along trips (cond b (Step ∷ []) [])) a (IsBehind b todo locked callers locks)
past-body core trips body todo locked callers locks monitor true a is =
    let one : suc locked - 1 ≡ locked = omega arith in
    subst (λ (x : After). Leads core (trip_along trips (Step ∷ [])) x (IsAt todo locked callers locks)) (sym is.3)
    (λ rest. (refl, (is.0, is.1, is.2, (λ i. here is.0 is.1 is.2 todo (one i) callers locks))))
past-body core trips body todo locked callers locks monitor false a is = λ rest. (refl, is)

module _ (core : Core) (trips : MethodId → Trip) (test : MethodId → Bool)
    (holds : (m : MethodId) → test m ≡ true → MethodRuns core trips m) where
  runs-op : (site : SiteId) (place : Place) (op : CoreOp) → list_all test (called_by op ++ []) ≡ true →
      RunsPast core trips (tree.Op site place op)
  runs-op site place Ret all locked store vars stack todo callers locks =
      subst (λ (t : Trip). Leads core t (here store vars stack (Op place Ret ∷ todo) locked callers locks)
      (HasReturned callers (drop locked locks))) (sym (steps-of trips (suc locked)))
      (past-ret core place locked store vars stack todo callers locks)
  runs-op site place (Call m n) all locked store vars stack todo callers locks =
      let runs : MethodRuns core trips m = holds m (and_parts (test m) true all).0 in
      let turns : (trips m).turns ≡ ([] ++ (trips m).turns) ++ [] = sym (append-nil (trips m).turns) in
      let steps : suc (trips m).steps ≡ (1 + (trips m).steps) + 0 = omega arith in
      subst (λ (ts : List Turn). LeadsTo core ts ((1 + (trips m).steps) + 0)
      (here store vars stack (Op place (Call m n) ∷ todo) locked callers locks) (IsAt todo locked callers locks))
      turns
      (one-more core (trips m).turns (trips m).steps ((1 + (trips m).steps) + 0)
      (here store vars stack (Op place (Call m n) ∷ todo) locked callers locks) (IsAt todo locked callers locks) steps
      (past-call core trips m n place locked store vars stack todo callers locks runs))
  runs-op site place (UnreadCall m n) all locked store vars stack todo callers locks = λ rest. tt
  runs-op site place Throw all locked store vars stack todo callers locks = λ rest. tt
  runs-op site place op all locked store vars stack todo callers locks =
      past-inner core op refl place locked store vars stack todo callers locks

  runs-then : (first rest : Tree) (locked : ℕ) (store : Store) (vars stack : List Value) (todo : List Todo)
      (callers : List Frame) (locks : List Holder) (b : Bool) → RunsPast core trips rest →
      Leads core (trip_along trips (passed locked first))
      (here store vars stack (before first (before rest todo)) locked callers locks)
      (IsBehind b (before rest todo) locked callers locks) →
      Leads core (trip_along trips (passed locked first ++ cond b (passed locked rest) []))
      (here store vars stack (before first (before rest todo)) locked callers locks)
      (IsBehind (b && can_end rest) todo locked callers locks)
  runs-then first rest locked store vars stack todo callers locks true past leads =
      subst (λ (t : Trip). Leads core t (here store vars stack (before first (before rest todo)) locked callers locks)
      (IsBehind (can_end rest) todo locked callers locks))
      (sym (along-both trips (passed locked first) (passed locked rest)))
      (leads-on core (IsAt (before rest todo) locked callers locks) (IsBehind (can_end rest) todo locked callers locks)
      (trip_along trips (passed locked first)).turns (trip_along trips (passed locked rest)).turns
      (trip_along trips (passed locked first)).steps (trip_along trips (passed locked rest)).steps
      (here store vars stack (before first (before rest todo)) locked callers locks) leads
      (λ a is. subst (λ (x : After). Leads core (trip_along trips (passed locked rest)) x
      (IsBehind (can_end rest) todo locked callers locks))
      (sym is.3) (past locked is.0 is.1 is.2 todo callers locks)))
  runs-then first rest locked store vars stack todo callers locks false past leads =
      subst (λ (ps : List WayPart). Leads core (trip_along trips ps)
      (here store vars stack (before first (before rest todo)) locked callers locks)
      (HasReturned callers (drop locked locks)))
      (sym (append-nil (passed locked first))) leads

  runs-either : (left right : Tree) (locked : ℕ) (store : Store) (vars stack : List Value) (todo : List Todo)
      (callers : List Frame) (locks : List Holder) (b : Bool) → can_end right ≡ b → RunsPast core trips left →
      RunsPast core trips right →
      Leads core (trip_along trips (cond b (Branched Right ∷ passed locked right) (Branched Left ∷ passed locked left)))
      (here store vars stack (Choice left right ∷ todo) locked callers locks)
      (IsBehind (can_end left || b) todo locked callers locks)
  runs-either left right locked store vars stack todo callers locks true ends on_left on_right =
      let a = here store vars stack (Choice left right ∷ todo) locked callers locks in
      let b = here store vars stack (before right todo) locked callers locks in
      let trip = trip_along trips (passed locked right) in
      subst (λ (x : Bool). Leads core (joined (record { turns = Right ∷ []; steps = 1; unread = [] }) trip) a
      (IsBehind x todo locked callers locks)) (sym (or_right (can_end left) true refl))
      (past-turn core trip Right a b (IsAt todo locked callers locks) (λ rest. refl)
      (subst (λ (x : Bool). Leads core trip b (IsBehind x todo locked callers locks)) ends
      (on_right locked store vars stack todo callers locks)))
  runs-either left right locked store vars stack todo callers locks false ends on_left on_right =
      let a = here store vars stack (Choice left right ∷ todo) locked callers locks in
      let b = here store vars stack (before left todo) locked callers locks in
      let trip = trip_along trips (passed locked left) in
      subst (λ (x : Bool). Leads core (joined (record { turns = Left ∷ []; steps = 1; unread = [] }) trip) a
      (IsBehind x todo locked callers locks)) (sym (or-false (can_end left)))
      (past-turn core trip Left a b (IsBehind (can_end left) todo locked callers locks) (λ rest. refl)
      (on_left locked store vars stack todo callers locks))

  runs-lock : (lock : LockAt) (body : Tree) (locked : ℕ) (store : Store) (vars stack : List Value) (todo : List Todo)
      (callers : List Frame) (locks : List Holder) (r : Result Holder Why) → RunsPast core trips body →
      (rest : List Turn) →
      let trip = trip_along trips (passed (suc locked) body ++ cond (can_end body) (Step ∷ []) []) in
      ComesTo (IsBehind (can_end body) todo locked callers locks) rest
      (onward (λ a. alone core trip.steps (trip.turns ++ rest) a)
      (lock_with [] (spot store vars stack todo locked callers locks) body r))
  runs-lock lock body locked store vars stack todo callers locks (Err why) past rest = tt
  runs-lock lock body locked store vars stack todo callers locks (Ok monitor) past rest =
      subst (λ (t : Trip). ComesTo (IsBehind (can_end body) todo locked callers locks) rest
      (alone core t.steps (t.turns ++ rest)
      (here store vars (drop 1 stack) (before body (Unlock ∷ todo)) (suc locked) callers (monitor ∷ locks))))
      (sym (along-both trips (passed (suc locked) body) (cond (can_end body) (Step ∷ []) [])))
      (leads-on core (IsBehind (can_end body) (Unlock ∷ todo) (suc locked) callers (monitor ∷ locks))
      (IsBehind (can_end body) todo locked callers locks)
      (trip_along trips (passed (suc locked) body)).turns
      (trip_along trips (cond (can_end body) (Step ∷ []) [])).turns
      (trip_along trips (passed (suc locked) body)).steps
      (trip_along trips (cond (can_end body) (Step ∷ []) [])).steps
      (here store vars (drop 1 stack) (before body (Unlock ∷ todo)) (suc locked) callers (monitor ∷ locks))
      (past (suc locked) store vars (drop 1 stack) (Unlock ∷ todo) callers (monitor ∷ locks))
      (past-body core trips body todo locked callers locks monitor (can_end body)) rest)

  pub runs-past : (code : Tree) → do_pass test (steps_of code) ≡ true → RunsPast core trips code
  runs-past (tree.Op site place op) all = runs-op site place op all
  runs-past tree.Skip all = λ locked store vars stack todo callers locks rest. (refl, (store, vars, stack, refl))
  runs-past (tree.Seq first rest) all =
      let both = pass-both test (steps_of first) (steps_of rest) all in
      let early = runs-past first (and_parts (do_pass test (steps_of first)) (do_pass test (steps_of rest)) both).0 in
      let late = runs-past rest (and_parts (do_pass test (steps_of first)) (do_pass test (steps_of rest)) both).1 in
      λ locked store vars stack todo callers locks.
      runs-then first rest locked store vars stack todo callers locks (can_end first) late
      (early locked store vars stack (before rest todo) callers locks)
  runs-past (tree.Choice left right) all =
      let both = pass-both test (steps_of left) (steps_of right) all in
      let on_left = runs-past left (and_parts (do_pass test (steps_of left)) (do_pass test (steps_of right)) both).0 in
      let on_right = runs-past right (and_parts (do_pass test (steps_of left)) (do_pass test (steps_of right)) both).1
      in
      λ locked store vars stack todo callers locks.
      runs-either left right locked store vars stack todo callers locks (can_end right) refl on_left on_right
  runs-past (tree.Loop body) all = λ locked store vars stack todo callers locks rest. (refl, (store, vars, stack, refl))
  runs-past (tree.Sync lock body) all = λ locked store vars stack todo callers locks.
      let trip = trip_along trips (passed (suc locked) body ++ cond (can_end body) (Step ∷ []) []) in
      one-more core trip.turns trip.steps (1 + trip.steps)
      (here store vars stack (Sync lock body ∷ todo) locked callers locks)
      (IsBehind (can_end body) todo locked callers locks) (omega arith)
      (runs-lock lock body locked store vars stack todo callers locks
      (monitor_of lock.kind (slice_index_or stack 0 Null)) (runs-past body all))
