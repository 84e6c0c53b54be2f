-- Code that is gone through to a return, run by one thread beside one that holds no monitor.
use Rattle.std.proofs.Common.{◌≡◌, ℕ, suc, ◌+◌, Bool, true, false, cond, ◌&&◌, ◌||◌, not, List, [], ◌∷◌, ◌++◌}
use Rattle.std.proofs.Common.{refl, sym, ap, ◌∙◌, subst, arith, drop, slice_index_or}
use Rattle.std.specs.Prelude.{Result, Ok, Err}
use Rattle.racer_base.specs.declared.ids.MethodId.{MethodId}
use Rattle.core_code.specs.declared.code.Op.{Op as CoreOp}
use Rattle.core_code.specs.declared.code.Op.TheVariants.{Ret, Throw}
use Rattle.core_code.specs.Core.{Core}
use Rattle.core_code.specs.Tree.{Tree}
use Rattle.core_code.specs.Tree.{can_end, can_return, is_return, steps_of, stops}
use Rattle.core_code.specs.Tree as tree
use Rattle.std.proofs.lemmas.Bool.{or_right, and_parts}
use Rattle.core_semantics.specs.declared.answer.Holder.{Holder}
use Rattle.core_semantics.specs.declared.answer.Turn.{Turn}
use Rattle.core_semantics.specs.declared.answer.Turn.TheVariants.{Left, Right}
use Rattle.core_semantics.specs.declared.answer.Why.{Why}
use Rattle.core_semantics.specs.declared.object.Value.{Value}
use Rattle.core_semantics.specs.declared.object.Value.TheVariants.{Null}
use Rattle.core_semantics.specs.State.{Frame, Store, Todo, Op, Choice, Loop, Sync, Unlock, before}
use Rattle.core_semantics.specs.Steps.{After, lock_with, monitor_of}
use Rattle.core_ways.specs.declared.part.WayPart.TheVariants.{Branched}
use Rattle.core_ways.specs.Alone.{ComesTo, HasReturned, IsAt, IsBehind, MethodRuns, RunsBack, RunsPast, alone}
use Rattle.core_ways.specs.Alone.{comes_back}
use Rattle.core_ways.specs.Alone.{here, onward}
use Rattle.core_ways.specs.Ways.{Trip, goes_past, passed, passed_op, to_return, trip_along}
use Rattle.core_ways.proofs.Alone.{Leads, along-both, leads-on, one-more, past-turn, runs-past, spot}
use Rattle.core_ways.proofs.Callees.{do_pass, pass-both}

-- ---- which part comes back

pub op-stops : (op : CoreOp) → (not (not (stops op)) || is_return op) ≡ true → not (stops op) ≡ false
op-stops Ret h = refl
op-stops Throw h = refl
op-stops _ h = absurd cc

pub returns-back : (code : Tree) → can_return code ≡ true → comes_back code ≡ true
returns-back code h = ap (λ (b : Bool). not (can_end code) || b) h ∙ or_right (not (can_end code)) true refl

pub late : (a b r q : Bool) → (a && (q || not r)) ≡ true → (not (a && b) || (r || (a && q))) ≡ true →
    (a ≡ true) × ((not b || q) ≡ true)
late true b r true p h = (refl, or_right (not b) true refl)
late true b true false p h = absurd cc
late true b false false p h = (refl, h)
late false b r q p h = absurd cc

pub early : (a r q : Bool) → (a && (q || not r)) ≡ false → (not a || r) ≡ true
early false r q p = refl
early true true q p = refl
early true false true p = absurd cc
early true false false p = absurd cc

pub right-back : (a b r q : Bool) → r ≡ false → (not (a || b) || (r || q)) ≡ true → (not b || q) ≡ true
right-back a b true q e h = absurd cc
right-back true b false q e h = ap (λ (x : Bool). not b || x) h ∙ or_right (not b) true refl
right-back false b false q e h = h

module _ (core : Core) (trips : MethodId → Trip) where
  back-then : (first rest : Tree) (b : Bool) → goes_past first rest ≡ b → comes_back (tree.Seq first rest) ≡ true →
      RunsPast core trips first → (comes_back first ≡ true → RunsBack core trips first) →
      (comes_back rest ≡ true → RunsBack core trips rest) → (locked : ℕ) (store : Store) (vars stack : List Value)
      (todo : List Todo) (callers : List Frame) (locks : List Holder) →
      Leads core (trip_along trips (cond b (passed locked first ++ to_return locked rest) (to_return locked first)))
      (here store vars stack (before first (before rest todo)) locked callers locks)
      (HasReturned callers (drop locked locks))
  back-then first rest true goes comes past on_first on_rest locked store vars stack todo callers locks =
      let which = late (can_end first) (can_end rest) (can_return first) (can_return rest) goes comes in
      let back = on_rest which.1 in
      let a = here store vars stack (before first (before rest todo)) locked callers locks in
      let P : After → Type 0 = HasReturned callers (drop locked locks) in
      subst (λ (t : Trip). Leads core t a P) (sym (along-both trips (passed locked first) (to_return locked rest)))
      (leads-on core (IsAt (before rest todo) locked callers locks) P
      (trip_along trips (passed locked first)).turns (trip_along trips (to_return locked rest)).turns
      (trip_along trips (passed locked first)).steps (trip_along trips (to_return locked rest)).steps a
      (subst (λ (b : Bool). Leads core (trip_along trips (passed locked first)) a
      (IsBehind b (before rest todo) locked callers locks)) which.0
      (past locked store vars stack (before rest todo) callers locks))
      (λ x is. subst (λ (y : After). Leads core (trip_along trips (to_return locked rest)) y P) (sym is.3)
      (back locked is.0 is.1 is.2 todo callers locks)))
  back-then first rest false goes comes past on_first on_rest locked store vars stack todo callers locks =
      on_first (early (can_end first) (can_return first) (can_return rest) goes) locked store vars stack
      (before rest todo) callers locks

  back-either : (left right : Tree) (b : Bool) → can_return left ≡ b → comes_back (tree.Choice left right) ≡ true →
      (comes_back left ≡ true → RunsBack core trips left) → (comes_back right ≡ true → RunsBack core trips right) →
      (locked : ℕ) (store : Store) (vars stack : List Value) (todo : List Todo) (callers : List Frame)
      (locks : List Holder) →
      Leads core (trip_along trips
      (cond b (Branched Left ∷ to_return locked left) (Branched Right ∷ to_return locked right)))
      (here store vars stack (Choice left right ∷ todo) locked callers locks)
      (HasReturned callers (drop locked locks))
  back-either left right true returns comes on_left on_right locked store vars stack todo callers locks =
      past-turn core (trip_along trips (to_return locked left)) Left
      (here store vars stack (Choice left right ∷ todo) locked callers locks)
      (here store vars stack (before left todo) locked callers locks)
      (HasReturned callers (drop locked locks)) (λ rest. refl)
      (on_left (returns-back left returns) locked store vars stack todo callers locks)
  back-either left right false returns comes on_left on_right locked store vars stack todo callers locks =
      past-turn core (trip_along trips (to_return locked right)) Right
      (here store vars stack (Choice left right ∷ todo) locked callers locks)
      (here store vars stack (before right todo) locked callers locks)
      (HasReturned callers (drop locked locks)) (λ rest. refl)
      (on_right (right-back (can_end left) (can_end right) (can_return left) (can_return right) returns comes)
      locked store vars stack todo callers locks)

  back-lock : (body : Tree) (locked : ℕ) (store : Store) (vars stack : List Value) (todo : List Todo)
      (callers : List Frame) (locks : List Holder) (r : Result Holder Why) → RunsBack core trips body →
      (rest : List Turn) →
      let trip = trip_along trips (to_return (suc locked) body) in
      ComesTo (HasReturned callers (drop locked locks)) rest
      (onward (λ a. alone core trip.steps (trip.turns ++ rest) a)
      (lock_with [] (spot store vars stack todo locked callers locks) body r))
  back-lock body locked store vars stack todo callers locks (Err why) back rest = tt
  back-lock body locked store vars stack todo callers locks (Ok monitor) back rest =
      back (suc locked) store vars (drop 1 stack) (Unlock ∷ todo) callers (monitor ∷ locks) rest

module _ (core : Core) (trips : MethodId → Trip) (test : MethodId → Bool)
    (holds : (m : MethodId) → test m ≡ true → MethodRuns core trips m) where
  pub runs-back : (code : Tree) → comes_back code ≡ true → do_pass test (steps_of code) ≡ true →
      RunsBack core trips code
  runs-back (tree.Op site place op) comes all = λ locked store vars stack todo callers locks.
      subst (λ (b : Bool). Leads core (trip_along trips (passed_op locked place op))
      (here store vars stack (Op place op ∷ todo) locked callers locks) (IsBehind b todo locked callers locks))
      (op-stops op comes)
      (runs-past core trips test holds (tree.Op site place op) all locked store vars stack todo callers locks)
  runs-back tree.Skip comes all = absurd cc
  runs-back (tree.Seq first rest) comes all =
      let both = pass-both test (steps_of first) (steps_of rest) all in
      let early = (and_parts (do_pass test (steps_of first)) (do_pass test (steps_of rest)) both).0 in
      let late = (and_parts (do_pass test (steps_of first)) (do_pass test (steps_of rest)) both).1 in
      back-then core trips first rest (goes_past first rest) refl comes (runs-past core trips test holds first early)
      (λ c. runs-back first c early) (λ c. runs-back rest c late)
  runs-back (tree.Choice left right) comes all =
      let both = pass-both test (steps_of left) (steps_of right) all in
      let early = (and_parts (do_pass test (steps_of left)) (do_pass test (steps_of right)) both).0 in
      let late = (and_parts (do_pass test (steps_of left)) (do_pass test (steps_of right)) both).1 in
      back-either core trips left right (can_return left) refl comes (λ c. runs-back left c early)
      (λ c. runs-back right c late)
  runs-back (tree.Loop body) comes all = λ locked store vars stack todo callers locks.
      past-turn core (trip_along trips (to_return locked body)) Left
      (here store vars stack (Loop body ∷ todo) locked callers locks)
      (here store vars stack (before body (Loop body ∷ todo)) locked callers locks)
      (HasReturned callers (drop locked locks)) (λ rest. refl)
      (runs-back body (returns-back body comes) all locked store vars stack (Loop body ∷ todo) callers locks)
  runs-back (tree.Sync lock body) comes all = λ locked store vars stack todo callers locks.
      let trip = trip_along trips (to_return (suc locked) body) in
      one-more core trip.turns trip.steps (1 + trip.steps)
      (here store vars stack (Sync lock body ∷ todo) locked callers locks)
      (HasReturned callers (drop locked locks)) (omega arith)
      (back-lock core trips body locked store vars stack todo callers locks
      (monitor_of lock.kind (slice_index_or stack 0 Null)) (runs-back body comes all))
