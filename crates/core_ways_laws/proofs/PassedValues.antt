-- Code that is passed, run alone, leads where it goes.
use Rattle.std.proofs.Common.{◌≡◌, ℕ, zero, suc, ◌+◌, ◌-◌, Bool, true, false, cond, ◌&&◌, ◌||◌, not, List, [], ◌∷◌}
use Rattle.std.proofs.Common.{◌++◌, Option, None, Some, refl, sym, ap, subst, drop, slice_index_or}
use Rattle.std.proofs.Common.{arith}
use Rattle.std.proofs.lemmas.Bool.{lt-ltb, and_parts}
use Rattle.std.proofs.lemmas.List.{append-nil}
use Rattle.std.specs.List.{list_all}
use Rattle.std.specs.Prelude.{Result, Ok, Err}
use Rattle.std.proofs.lemmas.Bool.{or_right}
use Rattle.std.proofs.Math.Bool.{or-false}
use Rattle.racer_base.specs.declared.ids.MethodId.{MethodId}
use Rattle.racer_base.specs.declared.ids.Place.{Place}
use Rattle.racer_base.specs.declared.ids.SiteId.{SiteId}
use Rattle.core_code.specs.declared.code.Op.{Op as CoreOp}
use Rattle.core_code.specs.declared.code.Op.TheVariants.{Get, Put}
use Rattle.core_code.specs.declared.code.Op.TheVariants.{Call, Unread as UnreadCall, Ret, Throw}
use Rattle.core_code.specs.Calls.{called_by, method_at}
use Rattle.core_code.specs.Core.{Core, Method}
use Rattle.core_code.specs.Tree.{Tree, can_end, stops}
use Rattle.core_code.specs.Tree.{steps_of}
use Rattle.core_code.specs.Tree as tree
use Rattle.core_semantics.specs.declared.answer.Holder.{Holder}
use Rattle.core_semantics.specs.declared.answer.Turn.{Turn}
use Rattle.core_semantics.specs.declared.answer.Turn.TheVariants.{Left, Right}
use Rattle.core_semantics.specs.declared.answer.Why.{Why}
use Rattle.core_semantics.specs.declared.answer.Why.TheVariants.{UnreadCall as UnreadWhy}
use Rattle.core_semantics.specs.declared.object.Object.{Object}
use Rattle.core_semantics.specs.declared.object.Value.{Value}
use Rattle.core_semantics.specs.declared.object.Value.TheVariants.{Null}
use Rattle.core_semantics.specs.State.{Frame, Store, Todo, Op, Choice, Sync, Unlock, before}
use Rattle.core_semantics.specs.Steps.{After, Inner, Next, Spot, Goes, Sticks, Waits, Ends, after, base_of}
use Rattle.core_semantics.specs.Steps.{called_method}
use Rattle.core_semantics.specs.Steps.{entering, going, inner, inner_step, lock_with, monitor_of, on_base, on_object}
use Rattle.core_semantics.specs.Steps.{op_step, passed_from, put, read, replaced, returned, slot_of, top, unlocked}
use Rattle.core_semantics.specs.Steps.{with_inner, with_todo, within}
use Rattle.core_ways.specs.declared.part.WayPart.{WayPart}
use Rattle.core_ways.specs.declared.part.WayPart.TheVariants.{Step, Branched}
use Rattle.core_ways.specs.Alone.{Alone, Came, ComesTo, LeadsTo, alone, onward}
use Rattle.core_ways.specs.Ways.{Trip, passed, trip_along}
use Rattle.core_ways.proofs.Alone.{Leads, along-both, drop-more, drop-none, leads-on, one-more, past-turn, spot}
use Rattle.core_ways.proofs.Alone.{steps-of, weaker}
use Rattle.core_ways.proofs.Callees.{do_pass, pass-both}
use Rattle.core_ways_laws.specs.Values.{Behind, Back, Calls, End, Point, behind, call_at, entry_point, evaluate, go_on}
use Rattle.core_ways_laws.specs.Values.{evaluate_op}
use Rattle.core_ways_laws.specs.Values.{inner_of, on_ok, point_popped, received, returned_to, top_value, values_passed}
use Rattle.core_ways_laws.specs.RunValues.{GoesPast, IsBack, IsEnd, MethodGoes, at_point, back_at}

-- ---- one operation in a frame

-- the frame has this still to do, and so many locks
abbrev with_rest : List Todo → ℕ → Inner → Inner
with_rest todo locked i =
    record {
      store = i.store;
      frame = record { vars = i.frame.vars; stack = i.frame.stack; todo = todo; locked = locked };
    }

base-within : (w : Inner → Inner) (r : Result Object Why) (f g : Object → Next Inner) →
    ((o : Object) → f o ≡ within w (g o)) → on_base r f ≡ within w (on_base r g)
base-within w (Ok o) f g same = same o
base-within w (Err why) f g same = refl

-- what is still to do plays no part
step-within : (core : Core) (todo : List Todo) (locked : ℕ) (i : Inner) (op : CoreOp) →
    inner_step core (with_rest todo locked i) op ≡ within (with_rest todo locked) (inner_step core i op)
step-within core todo locked i (Get f) =
    base-within (with_rest todo locked) (base_of (top i.frame))
    (λ o. going (with_rest todo locked i) (replaced (with_rest todo locked i).frame 1 (read core i.store o f)))
    (λ o. going i (replaced i.frame 1 (read core i.store o f))) (λ o. refl)
step-within core todo locked i (Put f) =
    base-within (with_rest todo locked) (base_of (slot_of i.frame 1)) (put (with_rest todo locked i) f) (put i f)
    (λ o. refl)
step-within core todo locked i op = refl

-- it is made, or it is stuck
abbrev Moves : Next Inner → Type 0
Moves (Goes i) = Unit {0}
Moves (Sticks why) = Unit {0}
Moves (Waits monitor) = true ≡ false
Moves Ends = true ≡ false

base-moves : (r : Result Object Why) (next : Object → Next Inner) → ((o : Object) → Moves (next o)) →
    Moves (on_base r next)
base-moves (Ok o) next moves = moves o
base-moves (Err why) next moves = tt

inner-moves : (core : Core) (i : Inner) (op : CoreOp) → Moves (inner_step core i op)
inner-moves core i (Get f) =
    base-moves (base_of (top i.frame)) (λ o. going i (replaced i.frame 1 (read core i.store o f))) (λ o. tt)
inner-moves core i (Put f) = base-moves (base_of (slot_of i.frame 1)) (put i f) (λ o. tt)
inner-moves core i op = tt

abbrev pub spot_at : Point → List Todo → ℕ → List Frame → List Holder → Spot
spot_at at todo locked callers locks = spot at.store at.vars at.stack todo locked callers locks

comes-inner : (s : Spot) (rest : List Turn) (next : Next Inner) → Moves next →
    ComesTo (IsEnd (behind next) s.frame.todo s.frame.locked s.callers s.locks) rest
    (onward (λ a. Came a rest) (within (λ i. after (with_inner s i))
    (within (with_rest s.frame.todo s.frame.locked) next)))
comes-inner s rest (Goes i) moves = (refl, refl)
comes-inner s rest (Sticks why) moves = tt
comes-inner s rest (Waits monitor) moves = moves
comes-inner s rest Ends moves = moves

past-op : (core : Core) (op : CoreOp) (at : Point) (todo : List Todo) (locked : ℕ) (callers : List Frame)
    (locks : List Holder) (rest : List Turn) →
    let s = spot_at at todo locked callers locks in
    ComesTo (IsEnd (behind (inner_step core (inner_of at) op)) todo locked callers locks) rest
    (onward (λ a. Came a rest) (within (λ i. after (with_inner s i)) (inner_step core (inner s) op)))
past-op core op at todo locked callers locks rest =
    let s = spot_at at todo locked callers locks in
    subst (λ (next : Next Inner).
    ComesTo (IsEnd (behind (inner_step core (inner_of at) op)) todo locked callers locks) rest
    (onward (λ a. Came a rest) (within (λ i. after (with_inner s i)) next)))
    (sym (step-within core todo locked (inner_of at) op))
    (comes-inner s rest (inner_step core (inner_of at) op) (inner-moves core (inner_of at) op))

-- ---- returns

abbrev IsReturned : Point → List Frame → List Holder → After → Type 0
IsReturned at callers locks a = a ≡ back_at callers locks at.store (top_value at)

returned-comes : (at : Point) (todo : List Todo) (callers : List Frame) (locks : List Holder) (rest : List Turn) →
    ComesTo (IsReturned at callers locks) rest
    (onward (λ a. Came a rest) (returned (spot_at at todo 0 callers locks)))
returned-comes at todo [] locks rest = (refl, refl)
returned-comes at todo (f ∷ callers) locks rest = (refl, refl)

-- one step at a return within locks: the innermost is unlocked
unlocks : (core : Core) (place : Place) (n : ℕ) (at : Point) (todo : List Todo) (callers : List Frame)
    (locks : List Holder) (P : After → Type 0) →
    LeadsTo core [] (suc n) (at_point at (Op place Ret ∷ todo) n callers (drop 1 locks)) P →
    LeadsTo core [] (suc (suc n)) (at_point at (Op place Ret ∷ todo) (suc n) callers locks) P
unlocks core place n at todo callers locks P leads rest =
    let s : Spot = spot_at at (Op place Ret ∷ todo) (suc n) callers locks in
    subst (λ (b : Bool). ComesTo P rest
    (onward (λ a. alone core (suc n) rest a)
    (cond b (Goes (after (unlocked s))) (op_step core (with_todo s todo) Ret))))
    (sym (lt-ltb 0 (suc n) (omega arith)))
    (subst (λ (k : ℕ). ComesTo P rest
    (alone core (suc n) rest (at_point at (Op place Ret ∷ todo) k callers (drop 1 locks))))
    (let one : n ≡ suc n - 1 = omega arith in one) (leads rest))

past-ret : (core : Core) (place : Place) (locked : ℕ) (at : Point) (todo : List Todo) (callers : List Frame)
    (locks : List Holder) →
    LeadsTo core [] (suc locked) (at_point at (Op place Ret ∷ todo) locked callers locks)
    (IsReturned at callers (drop locked locks))
past-ret core place zero at todo callers locks = λ rest.
    subst (λ (ls : List Holder). ComesTo (IsReturned at callers ls) rest
    (alone core 1 rest (at_point at (Op place Ret ∷ todo) 0 callers locks))) (sym (drop-none locks))
    (returned-comes at todo callers locks rest)
past-ret core place (suc n) at todo callers locks =
    unlocks core place n at todo callers locks (IsReturned at callers (drop (suc n) locks))
    (subst (λ (ls : List Holder). LeadsTo core [] (suc n)
    (at_point at (Op place Ret ∷ todo) n callers (drop 1 locks)) (IsReturned at callers ls))
    (drop-more n locks) (past-ret core place n at todo callers (drop 1 locks)))

-- ---- calls

comes-back : (at : Point) (n : ℕ) (todo : List Todo) (locked : ℕ) (callers : List Frame) (locks : List Holder)
    (o : Option (Store × Value)) (a : After) →
    IsBack o (record { vars = at.vars; stack = drop n at.stack; todo = todo; locked = locked } ∷ callers) locks a →
    IsEnd (returned_to at n o) todo locked callers locks a
comes-back at n todo locked callers locks None a is = is
comes-back at n todo locked callers locks (Some (store, value)) a is = is

enters : (core : Core) (trips : MethodId → Trip) (calls : Calls) (m : MethodId) (n : ℕ) (at : Point)
    (todo : List Todo) (locked : ℕ) (callers : List Frame) (locks : List Holder) (rest : List Turn) (method : Method) →
    method_at core m ≡ Some method → MethodGoes core trips calls m →
    ComesTo (IsEnd (returned_to at n (calls m (values_passed at n) at.store)) todo locked callers locks) rest
    (onward (λ a. alone core (trips m).steps ((trips m).turns ++ rest) a)
    (entering (spot_at at todo locked callers locks) method n))
enters core trips calls m n at todo locked callers locks rest method is goes =
    let back : Frame = record { vars = at.vars; stack = drop n at.stack; todo = todo; locked = locked } in
    let given_back = calls m (values_passed at n) at.store in
    weaker (IsBack given_back (back ∷ callers) locks)
    (IsEnd (returned_to at n given_back) todo locked callers locks) rest
    (alone core (trips m).steps ((trips m).turns ++ rest)
    (at_point (entry_point method (values_passed at n) at.store) (before method.code []) 0 (back ∷ callers) locks))
    (comes-back at n todo locked callers locks given_back)
    (goes method is (values_passed at n) at.store (back ∷ callers) locks rest)

on-receiver : (r : Result Object Why) (end : Option End) (todo : List Todo) (locked : ℕ) (callers : List Frame)
    (locks : List Holder) (rest : List Turn) (f : After → Alone) (next : Next After) →
    ComesTo (IsEnd end todo locked callers locks) rest (onward f next) →
    ComesTo (IsEnd (on_ok r end) todo locked callers locks) rest (onward f (on_base r (λ o. next)))
on-receiver (Ok o) end todo locked callers locks rest f next comes = comes
on-receiver (Err why) end todo locked callers locks rest f next comes = tt

called : (core : Core) (trips : MethodId → Trip) (calls : Calls) (m : MethodId) (n : ℕ) (at : Point)
    (todo : List Todo) (locked : ℕ) (callers : List Frame) (locks : List Holder) (rest : List Turn)
    (o : Option Method) → method_at core m ≡ o → MethodGoes core trips calls m →
    ComesTo (IsEnd (elim o as (λ _. Option End) [
      | None ↦ None
      | Some method ↦
          received method (values_passed at n) (returned_to at n (calls m (values_passed at n) at.store))
    ]) todo locked callers locks) rest
    (onward (λ a. alone core (trips m).steps ((trips m).turns ++ rest) a)
    (elim o as (λ _. Next After) [
      | None ↦ Sticks UnreadWhy
      | Some method ↦ called_method (spot_at at todo locked callers locks) method n
    ]))
called core trips calls m n at todo locked callers locks rest None is goes = tt
called core trips calls m n at todo locked callers locks rest (Some method) is goes =
    let s : Spot = spot_at at todo locked callers locks in
    let end : Option End = returned_to at n (calls m (values_passed at n) at.store) in
    let f : After → Alone = λ a. alone core (trips m).steps ((trips m).turns ++ rest) a in
    let comes = enters core trips calls m n at todo locked callers locks rest method is goes in
    elim method.is_static as (λ b. ComesTo (IsEnd
    (cond b end (on_ok (base_of (slice_index_or (values_passed at n) 0 Null)) end)) todo locked callers locks) rest
    (onward f (cond b (entering s method n)
    (on_object (slice_index_or (passed_from s.frame n) 0 Null) (λ o. entering s method n))))) [
      | true ↦ comes
      | false ↦
          on-receiver (base_of (slice_index_or (values_passed at n) 0 Null)) end todo locked callers locks rest f
          (entering s method n) comes
    ]

past-call : (core : Core) (trips : MethodId → Trip) (calls : Calls) (m : MethodId) (n : ℕ) (place : Place)
    (locked : ℕ) (at : Point) (todo : List Todo) (callers : List Frame) (locks : List Holder) →
    MethodGoes core trips calls m →
    LeadsTo core (trips m).turns (suc (trips m).steps)
    (at_point at (Op place (Call m n) ∷ todo) locked callers locks)
    (IsEnd (call_at core calls m n at) todo locked callers locks)
past-call core trips calls m n place locked at todo callers locks goes rest =
    called core trips calls m n at todo locked callers locks rest (method_at core m) refl goes

-- ---- where code can end

-- code goes on behind it exactly where it can end
abbrev pub EndsAs : Bool → Option End → Type 0
EndsAs b None = Unit {0}
EndsAs b (Some (Behind at)) = b ≡ true
EndsAs b (Some (Back store value)) = b ≡ false

behind-ends : (next : Next Inner) → EndsAs true (behind next)
behind-ends (Goes i) = refl
behind-ends (Sticks why) = tt
behind-ends (Waits monitor) = tt
behind-ends Ends = tt

pub ok-ends : {X E : Type 0} (b : Bool) (r : Result X E) (o : Option End) → EndsAs b o → EndsAs b (on_ok r o)
ok-ends b (Ok x) o ends = ends
ok-ends b (Err e) o ends = tt

returned-ends : (at : Point) (n : ℕ) (o : Option (Store × Value)) → EndsAs true (returned_to at n o)
returned-ends at n None = tt
returned-ends at n (Some (store, value)) = refl

received-ends : (method : Method) (values : List Value) (o : Option End) → EndsAs true o →
    EndsAs true (received method values o)
received-ends method values o ends =
    elim method.is_static as (λ b.
    EndsAs true (cond b o (on_ok (base_of (slice_index_or values 0 Null)) o))) [
      | true ↦ ends
      | false ↦ ok-ends true (base_of (slice_index_or values 0 Null)) o ends
    ]

call-ends : (calls : Calls) (m : MethodId) (n : ℕ) (at : Point) (o : Option Method) →
    EndsAs true (elim o as (λ _. Option End) [
      | None ↦ None
      | Some method ↦
          received method (values_passed at n) (returned_to at n (calls m (values_passed at n) at.store))
    ])
call-ends calls m n at None = tt
call-ends calls m n at (Some method) =
    received-ends method (values_passed at n) (returned_to at n (calls m (values_passed at n) at.store))
    (returned-ends at n (calls m (values_passed at n) at.store))

op-ends : (core : Core) (calls : Calls) (op : CoreOp) (at : Point) →
    EndsAs (not (stops op)) (evaluate_op core calls op at)
op-ends core calls (Call m n) at = call-ends calls m n at (method_at core m)
op-ends core calls Ret at = refl
op-ends core calls Throw at = tt
op-ends core calls op at = behind-ends (inner_step core (inner_of at) op)

then-ends : (a b : Bool) (o : Option End) (f : Point → Option End) → EndsAs a o → ((at : Point) → EndsAs b (f at)) →
    EndsAs (a && b) (go_on o f)
then-ends a b None f first rest = tt
then-ends a b (Some (Behind at)) f first rest =
    subst (λ (x : Bool). EndsAs (x && b) (f at)) (sym first) (rest at)
then-ends a b (Some (Back store value)) f first rest = ap (λ (x : Bool). x && b) first

either-ends : (a b : Bool) (l r : Option End) → EndsAs a l → EndsAs b r → EndsAs (a || b) (cond b r l)
either-ends a true l r left right = subst (λ (x : Bool). EndsAs x r) (sym (or_right a true refl)) right
either-ends a false l r left right = subst (λ (x : Bool). EndsAs x l) (sym (or-false a)) left

pub go-ends : (core : Core) (calls : Calls) (code : Tree) (at : Point) →
    EndsAs (can_end code) (evaluate core calls code at)
go-ends core calls (tree.Op site place op) at = op-ends core calls op at
go-ends core calls tree.Skip at = refl
go-ends core calls (tree.Seq first rest) at =
    then-ends (can_end first) (can_end rest) (evaluate core calls first at) (evaluate core calls rest)
    (go-ends core calls first at)
    (go-ends core calls rest)
go-ends core calls (tree.Choice left right) at =
    either-ends (can_end left) (can_end right) (evaluate core calls left at) (evaluate core calls right at)
    (go-ends core calls left at) (go-ends core calls right at)
go-ends core calls (tree.Loop body) at = refl
go-ends core calls (tree.Sync lock body) at =
    ok-ends (can_end body) (monitor_of lock.kind (top_value at)) (evaluate core calls body (point_popped at 1))
    (go-ends core calls body (point_popped at 1))

-- ---- turns and locks

-- what comes to no place comes to every place
pub nowhere : (core : Core) (trip : Trip) (P : After → Type 0) (a : After) → ⊥ → Leads core trip a P
nowhere core trip P a none = absurd none

-- behind a lock's body
past-body : (core : Core) (trips : MethodId → Trip) (o : Option End) (todo : List Todo) (locked : ℕ)
    (callers : List Frame) (locks : List Holder) (monitor : Holder) (b : Bool) (a : After) → EndsAs b o →
    IsEnd o (Unlock ∷ todo) (suc locked) callers (monitor ∷ locks) a →
    Leads core (trip_along trips (cond b (Step ∷ []) [])) a (IsEnd o todo locked callers locks)
past-body core trips None todo locked callers locks monitor b a ends is =
    nowhere core (trip_along trips (cond b (Step ∷ []) [])) (IsEnd None todo locked callers locks) a is
past-body core trips (Some (Behind at)) todo locked callers locks monitor b a ends is =
    let P : After → Type 0 = IsEnd (Some (Behind at)) todo locked callers locks in
    let one : suc locked - 1 ≡ locked = omega arith in
    subst (λ (x : Bool). Leads core (trip_along trips (cond x (Step ∷ []) [])) a P) (sym ends)
    (subst (λ (x : After). Leads core (trip_along trips (Step ∷ [])) x P) (sym is)
    (λ rest. (refl, (λ i. at_point at todo (one i) callers locks))))
past-body core trips (Some (Back store value)) todo locked callers locks monitor b a ends is =
    let P : After → Type 0 = IsEnd (Some (Back store value)) todo locked callers locks in
    subst (λ (x : Bool). Leads core (trip_along trips (cond x (Step ∷ []) [])) a P) (sym ends)
    (λ rest. (refl, is))

module _ (core : Core) (trips : MethodId → Trip) (calls : Calls) (test : MethodId → Bool)
    (holds : (m : MethodId) → test m ≡ true → MethodGoes core trips calls m) where
  goes-op : (site : SiteId) (place : Place) (op : CoreOp) → list_all test (called_by op ++ []) ≡ true →
      GoesPast core trips calls (tree.Op site place op)
  goes-op site place Ret all locked at todo callers locks =
      subst (λ (t : Trip). Leads core t (at_point at (Op place Ret ∷ todo) locked callers locks)
      (IsReturned at callers (drop locked locks))) (sym (steps-of trips (suc locked)))
      (past-ret core place locked at todo callers locks)
  goes-op site place (Call m n) all locked at todo callers locks =
      let goes : MethodGoes core trips calls m = holds m (and_parts (test m) true all).0 in
      let turns : (trips m).turns ≡ ([] ++ (trips m).turns) ++ [] = sym (append-nil (trips m).turns) in
      let steps : suc (trips m).steps ≡ (1 + (trips m).steps) + 0 = omega arith in
      let a : After = at_point at (Op place (Call m n) ∷ todo) locked callers locks in
      let P : After → Type 0 = IsEnd (call_at core calls m n at) todo locked callers locks in
      subst (λ (ts : List Turn). LeadsTo core ts ((1 + (trips m).steps) + 0) a P) turns
      (one-more core (trips m).turns (trips m).steps ((1 + (trips m).steps) + 0) a P steps
      (past-call core trips calls m n place locked at todo callers locks goes))
  goes-op site place (UnreadCall m n) all locked at todo callers locks = λ rest. tt
  goes-op site place op all locked at todo callers locks = λ rest. past-op core op at todo locked callers locks rest

  goes-then : (first rest : Tree) (locked : ℕ) (a : After) (todo : List Todo) (callers : List Frame)
      (locks : List Holder) (b : Bool) (o : Option End) → EndsAs b o → GoesPast core trips calls rest →
      Leads core (trip_along trips (passed locked first)) a (IsEnd o (before rest todo) locked callers locks) →
      Leads core (trip_along trips (passed locked first ++ cond b (passed locked rest) [])) a
      (IsEnd (go_on o (evaluate core calls rest)) todo locked callers locks)
  goes-then first rest locked a todo callers locks b None ends past leads =
      let more : List WayPart = cond b (passed locked rest) [] in
      subst (λ (t : Trip). Leads core t a (λ x. ⊥)) (sym (along-both trips (passed locked first) more))
      (leads-on core (λ x. ⊥) (λ x. ⊥) (trip_along trips (passed locked first)).turns (trip_along trips more).turns
      (trip_along trips (passed locked first)).steps (trip_along trips more).steps a leads
      (λ x none. nowhere core (trip_along trips more) (λ y. ⊥) x none))
  goes-then first rest locked a todo callers locks b (Some (Behind at)) ends past leads =
      let P : After → Type 0 = IsEnd (evaluate core calls rest at) todo locked callers locks in
      subst (λ (x : Bool). Leads core (trip_along trips (passed locked first ++ cond x (passed locked rest) [])) a P)
      (sym ends)
      (subst (λ (t : Trip). Leads core t a P) (sym (along-both trips (passed locked first) (passed locked rest)))
      (leads-on core (IsEnd (Some (Behind at)) (before rest todo) locked callers locks) P
      (trip_along trips (passed locked first)).turns (trip_along trips (passed locked rest)).turns
      (trip_along trips (passed locked first)).steps (trip_along trips (passed locked rest)).steps a leads
      (λ x is. subst (λ (y : After). Leads core (trip_along trips (passed locked rest)) y P) (sym is)
      (past locked at todo callers locks))))
  goes-then first rest locked a todo callers locks b (Some (Back store value)) ends past leads =
      let P : After → Type 0 = IsEnd (Some (Back store value)) todo locked callers locks in
      subst (λ (x : Bool). Leads core (trip_along trips (passed locked first ++ cond x (passed locked rest) [])) a P)
      (sym ends)
      (subst (λ (ps : List WayPart). Leads core (trip_along trips ps) a P) (sym (append-nil (passed locked first)))
      leads)

  goes-either : (left right : Tree) (locked : ℕ) (at : Point) (todo : List Todo) (callers : List Frame)
      (locks : List Holder) (b : Bool) → GoesPast core trips calls left → GoesPast core trips calls right →
      Leads core (trip_along trips (cond b (Branched Right ∷ passed locked right) (Branched Left ∷ passed locked left)))
      (at_point at (Choice left right ∷ todo) locked callers locks)
      (IsEnd (cond b (evaluate core calls right at) (evaluate core calls left at)) todo locked callers locks)
  goes-either left right locked at todo callers locks true on_left on_right =
      past-turn core (trip_along trips (passed locked right)) Right
      (at_point at (Choice left right ∷ todo) locked callers locks)
      (at_point at (before right todo) locked callers locks)
      (IsEnd (evaluate core calls right at) todo locked callers locks)
      (λ rest. refl) (on_right locked at todo callers locks)
  goes-either left right locked at todo callers locks false on_left on_right =
      past-turn core (trip_along trips (passed locked left)) Left
      (at_point at (Choice left right ∷ todo) locked callers locks)
      (at_point at (before left todo) locked callers locks)
      (IsEnd (evaluate core calls left at) todo locked callers locks)
      (λ rest. refl) (on_left locked at todo callers locks)

  goes-lock : (body : Tree) (locked : ℕ) (at : Point) (todo : List Todo) (callers : List Frame) (locks : List Holder)
      (r : Result Holder Why) → GoesPast core trips calls body → (rest : List Turn) →
      let trip = trip_along trips (passed (suc locked) body ++ cond (can_end body) (Step ∷ []) []) in
      ComesTo (IsEnd (on_ok r (evaluate core calls body (point_popped at 1))) todo locked callers locks) rest
      (onward (λ a. alone core trip.steps (trip.turns ++ rest) a)
      (lock_with [] (spot_at at todo locked callers locks) body r))
  goes-lock body locked at todo callers locks (Err why) past rest = tt
  goes-lock body locked at todo callers locks (Ok monitor) past rest =
      let o : Option End = evaluate core calls body (point_popped at 1) in
      let P : After → Type 0 = IsEnd o todo locked callers locks in
      let a : After =
      at_point (point_popped at 1) (before body (Unlock ∷ todo)) (suc locked) callers (monitor ∷ locks) in
      let last : List WayPart = cond (can_end body) (Step ∷ []) [] in
      subst (λ (t : Trip). ComesTo P rest (alone core t.steps (t.turns ++ rest) a))
      (sym (along-both trips (passed (suc locked) body) last))
      (leads-on core (IsEnd o (Unlock ∷ todo) (suc locked) callers (monitor ∷ locks)) P
      (trip_along trips (passed (suc locked) body)).turns (trip_along trips last).turns
      (trip_along trips (passed (suc locked) body)).steps (trip_along trips last).steps a
      (past (suc locked) (point_popped at 1) (Unlock ∷ todo) callers (monitor ∷ locks))
      (λ x is. past-body core trips o todo locked callers locks monitor (can_end body) x
      (go-ends core calls body (point_popped at 1)) is) rest)

  pub goes-past : (code : Tree) → do_pass test (steps_of code) ≡ true → GoesPast core trips calls code
  goes-past (tree.Op site place op) all = goes-op site place op all
  goes-past tree.Skip all = λ locked at todo callers locks rest. (refl, refl)
  goes-past (tree.Seq first rest) all =
      let both = pass-both test (steps_of first) (steps_of rest) all in
      let early = goes-past first (and_parts (do_pass test (steps_of first)) (do_pass test (steps_of rest)) both).0 in
      let late = goes-past rest (and_parts (do_pass test (steps_of first)) (do_pass test (steps_of rest)) both).1 in
      λ locked at todo callers locks.
      goes-then first rest locked (at_point at (before first (before rest todo)) locked callers locks) todo callers
      locks (can_end first) (evaluate core calls first at) (go-ends core calls first at) late
      (early locked at (before rest todo) callers locks)
  goes-past (tree.Choice left right) all =
      let both = pass-both test (steps_of left) (steps_of right) all in
      let on_left = goes-past left (and_parts (do_pass test (steps_of left)) (do_pass test (steps_of right)) both).0 in
      let on_right = goes-past right (and_parts (do_pass test (steps_of left)) (do_pass test (steps_of right)) both).1
      in
      λ locked at todo callers locks.
      goes-either left right locked at todo callers locks (can_end right) on_left on_right
  goes-past (tree.Loop body) all = λ locked at todo callers locks rest. (refl, refl)
  goes-past (tree.Sync lock body) all = λ locked at todo callers locks.
      let trip = trip_along trips (passed (suc locked) body ++ cond (can_end body) (Step ∷ []) []) in
      one-more core trip.turns trip.steps (1 + trip.steps) (at_point at (Sync lock body ∷ todo) locked callers locks)
      (IsEnd (evaluate core calls (tree.Sync lock body) at) todo locked callers locks) (omega arith)
      (goes-lock body locked at todo callers locks (monitor_of lock.kind (top_value at)) (goes-past body all))
