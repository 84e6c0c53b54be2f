-- What it is that a run is not stuck at a throw, and the steps that are not.
use Rattle.std.proofs.Common.{◌≡◌, ℕ, zero, suc, ◌+◌, ◌-◌, Bool, true, false, cond, not, List, [], ◌∷◌, ◌++◌}
use Rattle.std.proofs.Common.{Option, None, Some, refl, sym, ap, ◌∙◌, subst, arith, drop, slice_index_or}
use Rattle.std.proofs.Common.{append_assoc}
use Rattle.std.proofs.lemmas.Bool.{lt-ltb}
use Rattle.racer_base.specs.declared.ids.MethodId.{MethodId}
use Rattle.racer_base.specs.declared.ids.Place.{Place}
use Rattle.racer_base.specs.declared.ids.SiteId.{SiteId}
use Rattle.core_code.specs.declared.code.Op.{Op as CoreOp}
use Rattle.core_code.specs.declared.code.Op.TheVariants.{Get, Put, Call, Unread as UnreadCall, Ret, Throw}
use Rattle.core_code.specs.Calls.{method_at}
use Rattle.core_code.specs.Core.{Core, Method}
use Rattle.core_code.specs.Tree.{LockAt, Operation, Tree}
use Rattle.core_code.specs.Tree.{steps_of, stops}
use Rattle.core_code.proofs.Membership.{In, in_left, in_right}
use Rattle.core_semantics.specs.declared.answer.Holder.{Holder}
use Rattle.core_semantics.specs.declared.answer.Turn.{Turn}
use Rattle.core_semantics.specs.declared.answer.Why.TheVariants.{UnreadCall as UnreadWhy}
use Rattle.core_semantics.specs.declared.object.Object.{Object}
use Rattle.core_semantics.specs.declared.object.Value.{Value}
use Rattle.core_semantics.specs.declared.object.Value.TheVariants.{Plain, Opaque, Null, Object as Ref}
use Rattle.core_semantics.specs.State.{Frame, Store, Todo, Op, Unlock, before}
use Rattle.core_semantics.specs.Steps.{After, Inner, Next, Spot, Goes, Sticks, Waits, Ends, after, base_of}
use Rattle.core_semantics.specs.Steps.{called_method}
use Rattle.core_semantics.specs.Steps.{entering, going, inner_step, lock_with, monitor_of, on_base}
use Rattle.core_semantics.specs.Steps.{on_object, op_step, passed_from, put, read, replaced, returned, slot_of, top}
use Rattle.core_semantics.specs.Steps.{unlocked, with_todo, within}
use Rattle.core_ways.specs.Alone.{Alone, Came, Stuck, Broken, ComesTo, LeadsTo}
use Rattle.core_ways.specs.Alone.{alone, here, onward}
use Rattle.core_ways.specs.Ways.{Trip, joined, passed, reached, to_return, trip_along}
use Rattle.core_ways.proofs.Alone.{alone-both, run_on, spot}
use Rattle.core_ways_laws.specs.ClearLegs.{is_thrown}

-- ---- what is shown

-- a run is not stuck at a throw
abbrev pub IsClear : Alone → Type 0
IsClear (Came a left) = Unit {0}
IsClear (Stuck why) = is_thrown why ≡ false
IsClear Broken = Unit {0}

abbrev pub LeadsClear : Core → List Turn → ℕ → After → Type 0
LeadsClear core turns n a = (rest : List Turn) → IsClear (alone core n (turns ++ rest) a)

-- along these parts of code, whatever comes behind it and whatever the thread holds
abbrev ClearAlong : Core → Tree → (ℕ → Trip) → Type 0
ClearAlong core code trip =
    (locked : ℕ) (store : Store) (vars stack : List Value) (todo : List Todo) (callers : List Frame)
    (locks : List Holder) →
    LeadsClear core (trip locked).turns (trip locked).steps
    (here store vars stack (before code todo) locked callers locks)

-- code is passed
abbrev pub ClearPast : Core → (MethodId → Trip) → Tree → Type 0
ClearPast core trips code = ClearAlong core code (λ locked. trip_along trips (passed locked code))

-- code is gone through to a return
abbrev pub ClearBack : Core → (MethodId → Trip) → Tree → Type 0
ClearBack core trips code = ClearAlong core code (λ locked. trip_along trips (to_return locked code))

-- code is gone into up to a site
abbrev pub ClearTo : Core → (MethodId → Trip) → SiteId → Tree → Type 0
ClearTo core trips site code = ClearAlong core code (λ locked. trip_along trips (reached locked site code))

-- a method is passed
abbrev pub MethodClear : Core → (MethodId → Trip) → MethodId → Type 0
MethodClear core trips m =
    (method : Method) → method_at core m ≡ Some method →
    (store : Store) (vars : List Value) (callers : List Frame) (locks : List Holder) →
    LeadsClear core (trips m).turns (trips m).steps (here store vars [] (before method.code []) 0 callers locks)

-- each method that code calls is passed
abbrev pub AreCallsClear : Core → (MethodId → Trip) → Tree → Type 0
AreCallsClear core trips code =
    (o : Operation) → In (steps_of code) o → (m : MethodId) (n : ℕ) → o.op ≡ Call m n → MethodClear core trips m

pub first-clear : (core : Core) (trips : MethodId → Trip) (first rest : Tree) →
    ((o : Operation) → In (steps_of first ++ steps_of rest) o → (m : MethodId) (n : ℕ) → o.op ≡ Call m n →
    MethodClear core trips m) →
    AreCallsClear core trips first
first-clear core trips first rest each o there = each o (in_left (steps_of first) (steps_of rest) o there)

pub last-clear : (core : Core) (trips : MethodId → Trip) (first rest : Tree) →
    ((o : Operation) → In (steps_of first ++ steps_of rest) o → (m : MethodId) (n : ℕ) → o.op ≡ Call m n →
    MethodClear core trips m) →
    AreCallsClear core trips rest
last-clear core trips first rest each o there = each o (in_right (steps_of first) (steps_of rest) o there)

-- ---- one step

abbrev StepClear : {X : Type 0} → Next X → Type 0
StepClear (Goes x) = Unit {0}
StepClear (Sticks why) = is_thrown why ≡ false
StepClear (Waits monitor) = Unit {0}
StepClear Ends = Unit {0}

pub onward-clear : (f : After → Alone) (next : Next After) → ((a : After) → IsClear (f a)) → StepClear next →
    IsClear (onward f next)
onward-clear f (Goes a) rest clear = rest a
onward-clear f (Sticks why) rest clear = clear
onward-clear f (Waits monitor) rest clear = tt
onward-clear f Ends rest clear = tt

pub within-clear : {X Y : Type 0} (w : X → Y) (next : Next X) → StepClear next → StepClear (within w next)
within-clear w (Goes x) clear = tt
within-clear w (Sticks why) clear = clear
within-clear w (Waits monitor) clear = tt
within-clear w Ends clear = tt

base-clear : {X : Type 0} (v : Value) (next : Object → Next X) → ((o : Object) → StepClear (next o)) →
    StepClear (on_base (base_of v) next)
base-clear Plain next clear = refl
base-clear Opaque next clear = refl
base-clear Null next clear = refl
base-clear (Ref o) next clear = clear o

pub inner-clear : (core : Core) (i : Inner) (op : CoreOp) → not (stops op) ≡ true → StepClear (inner_step core i op)
inner-clear core i (Get f) goes =
    base-clear (top i.frame) (λ o. going i (replaced i.frame 1 (read core i.store o f))) (λ o. tt)
inner-clear core i (Put f) goes = base-clear (slot_of i.frame 1) (put i f) (λ o. tt)
inner-clear core i (Call m n) goes = refl
inner-clear core i (UnreadCall m n) goes = refl
inner-clear core i Ret goes = refl
inner-clear core i Throw goes = absurd cc
inner-clear core i op goes = tt

-- ---- runs

clear-run : (core : Core) (P : After → Type 0) (second rest : List Turn) (n : ℕ) (r : Alone) →
    ((b : After) → P b → LeadsClear core second n b) → ComesTo P (second ++ rest) r → IsClear r →
    IsClear (run_on (λ b left. alone core n left b) r)
clear-run core P second rest n (Came b left) then_on comes clear =
    subst (λ (ts : List Turn). IsClear (alone core n ts b)) (sym comes.0) (then_on b comes.1 rest)
clear-run core P second rest n (Stuck why) then_on comes clear = clear
clear-run core P second rest n Broken then_on comes clear = tt

-- what leads to a place, and what leads on from there
pub clear-on : (core : Core) (P : After → Type 0) (first second : List Turn) (m n : ℕ) (a : After) →
    LeadsTo core first m a P → LeadsClear core first m a → ((b : After) → P b → LeadsClear core second n b) →
    LeadsClear core (first ++ second) (m + n) a
clear-on core P first second m n a leads clear then_on rest =
    subst IsClear
    (sym (ap (λ (ts : List Turn). alone core (m + n) ts a) (append_assoc first second rest)
    ∙ alone-both core m n (first ++ (second ++ rest)) a))
    (clear-run core P second rest n (alone core m (first ++ (second ++ rest)) a) then_on (leads (second ++ rest))
    (clear (second ++ rest)))

abbrev pub Clear : Core → Trip → After → Type 0
Clear core trip a = LeadsClear core trip.turns trip.steps a

pub more-clear : (core : Core) (turns : List Turn) (n k : ℕ) (a : After) → suc n ≡ k → LeadsClear core turns (suc n) a →
    LeadsClear core turns k a
more-clear core turns n k a same leads = subst (λ (j : ℕ). LeadsClear core turns j a) same leads

pub turn-clear : (core : Core) (trip : Trip) (turn : Turn) (a b : After) →
    ((rest : List Turn) → alone core (suc trip.steps) (turn ∷ (trip.turns ++ rest)) a ≡
    alone core trip.steps (trip.turns ++ rest) b) → Clear core trip b →
    Clear core (joined (record { turns = turn ∷ []; steps = 1; unread = [] }) trip) a
turn-clear core trip turn a b steps leads =
    more-clear core (turn ∷ trip.turns) trip.steps (1 + trip.steps) a (omega arith)
    (λ rest. subst IsClear (sym (steps rest)) (leads rest))

-- ---- calls

receiver-clear : (v : Value) (f : After → Alone) (next : Next After) → IsClear (onward f next) →
    IsClear (onward f (on_base (base_of v) (λ o. next)))
receiver-clear Plain f next inside = refl
receiver-clear Opaque f next inside = refl
receiver-clear Null f next inside = refl
receiver-clear (Ref o) f next inside = inside

-- a call is not stuck at a throw where the callee is not
pub call-clear : (core : Core) (m : MethodId) (n : ℕ) (s : Spot) (f : After → Alone) (o : Option Method) →
    method_at core m ≡ o →
    ((method : Method) → method_at core m ≡ Some method → IsClear (onward f (entering s method n))) →
    IsClear (onward f (elim o as (λ _. Next After) [
      | None ↦ Sticks UnreadWhy
      | Some method ↦ called_method s method n
    ]))
call-clear core m n s f None is clear = refl
call-clear core m n s f (Some method) is clear =
    elim method.is_static as (λ b. IsClear (onward f (cond b (entering s method n)
    (on_object (slice_index_or (passed_from s.frame n) 0 Null) (λ o. entering s method n))))) [
      | true ↦ clear method is
      | false ↦
          receiver-clear (slice_index_or (passed_from s.frame n) 0 Null) f (entering s method n) (clear method is)
    ]

-- ---- returns

returned-clear : (store : Store) (vars stack : List Value) (todo : List Todo) (callers : List Frame)
    (locks : List Holder) (rest : List Turn) →
    IsClear (onward (λ a. Came a rest) (returned (spot store vars stack todo 0 callers locks)))
returned-clear store vars stack todo [] locks rest = tt
returned-clear store vars stack todo (f ∷ callers) locks rest = tt

pub ret-clear : (core : Core) (place : Place) (locked : ℕ) (store : Store) (vars stack : List Value) (todo : List Todo)
    (callers : List Frame) (locks : List Holder) →
    LeadsClear core [] (suc locked) (here store vars stack (Op place Ret ∷ todo) locked callers locks)
ret-clear core place zero store vars stack todo callers locks = λ rest.
    returned-clear store vars stack todo callers locks rest
ret-clear core place (suc n) store vars stack todo callers locks = λ rest.
    let s : Spot = spot store vars stack (Op place Ret ∷ todo) (suc n) callers locks in
    subst (λ (b : Bool). IsClear (onward (λ a. alone core (suc n) rest a)
    (cond b (Goes (after (unlocked s))) (op_step core (with_todo s todo) Ret))))
    (sym (lt-ltb 0 (suc n) (omega arith)))
    (subst (λ (k : ℕ). IsClear
    (alone core (suc n) rest (here store vars stack (Op place Ret ∷ todo) k callers (drop 1 locks))))
    (let one : n ≡ suc n - 1 = omega arith in one)
    (ret-clear core place n store vars stack todo callers (drop 1 locks) rest))

-- ---- locks

pub lock-clear : (core : Core) (store : Store) (vars stack : List Value) (todo : List Todo) (locked : ℕ)
    (callers : List Frame) (locks : List Holder) (kind_of_lock : LockAt) (body : Tree) (f : After → Alone) (v : Value) →
    ((monitor : Holder) → IsClear (f (here store vars (drop 1 stack) (before body (Unlock ∷ todo)) (suc locked) callers
    (monitor ∷ locks)))) →
    IsClear (onward f (lock_with [] (spot store vars stack todo locked callers locks) body
    (monitor_of kind_of_lock.kind v)))
lock-clear core store vars stack todo locked callers locks lock body f Plain inside = refl
lock-clear core store vars stack todo locked callers locks lock body f Null inside = refl
lock-clear core store vars stack todo locked callers locks lock body f Opaque inside = inside _
lock-clear core store vars stack todo locked callers locks lock body f (Ref o) inside = inside _
