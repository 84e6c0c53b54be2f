-- Code that is gone through to a return, run alone, leads where it comes back.
use Rattle.std.proofs.Common.{◌≡◌, ℕ, suc, ◌+◌, Bool, true, false, cond, List, [], ◌∷◌, ◌++◌, Option, None, Some}
use Rattle.std.proofs.Common.{refl, sym, subst, arith}
use Rattle.std.specs.Prelude.{Result, Ok, Err}
use Rattle.std.proofs.lemmas.Bool.{and_parts}
use Rattle.racer_base.specs.declared.ids.MethodId.{MethodId}
use Rattle.core_code.specs.Core.{Core}
use Rattle.core_code.specs.Tree.{Tree, can_end, can_return, steps_of, stops}
use Rattle.core_code.specs.Tree as tree
use Rattle.core_semantics.specs.declared.answer.Holder.{Holder}
use Rattle.core_semantics.specs.declared.answer.Turn.{Turn}
use Rattle.core_semantics.specs.declared.answer.Turn.TheVariants.{Left, Right}
use Rattle.core_semantics.specs.declared.answer.Why.{Why}
use Rattle.core_semantics.specs.State.{Frame, Todo, Op, Choice, Loop, Sync, Unlock, before}
use Rattle.core_semantics.specs.Steps.{After, lock_with, monitor_of}
use Rattle.core_ways.specs.declared.part.WayPart.TheVariants.{Branched}
use Rattle.core_ways.specs.Alone.{ComesTo, alone, comes_back, onward}
use Rattle.core_ways.specs.Ways.{Trip, goes_past, passed, passed_op, to_return, trip_along}
use Rattle.core_ways.proofs.Alone.{Leads, along-both, leads-on, one-more, past-turn, weaker}
use Rattle.core_ways.proofs.AloneBack.{early, late, op-stops, returns-back, right-back}
use Rattle.core_ways.proofs.Callees.{do_pass, pass-both}
use Rattle.core_ways_laws.specs.Values.{Behind, Back, Calls, End, Point, come_back, evaluate, evaluate_op, go_on, on_ok}
use Rattle.core_ways_laws.specs.Values.{only_back, point_popped, top_value}
use Rattle.core_ways_laws.specs.RunValues.{GoesBack, GoesPast, IsEnd, MethodGoes, at_point}
use Rattle.core_ways_laws.proofs.PassedValues.{EndsAs, go-ends, goes-past, nowhere, ok-ends, spot_at}

-- ---- nothing goes on behind it

only-ends : (o : Option End) → EndsAs false (only_back o)
only-ends None = tt
only-ends (Some (Behind at)) = tt
only-ends (Some (Back store value)) = refl

on-ends : (o : Option End) (f : Point → Option End) → ((at : Point) → EndsAs false (f at)) → EndsAs false (go_on o f)
on-ends None f rest = tt
on-ends (Some (Behind at)) f rest = rest at
on-ends (Some (Back store value)) f rest = refl

pub back-ends : (core : Core) (calls : Calls) (code : Tree) (at : Point) → EndsAs false (come_back core calls code at)
back-ends core calls (tree.Op site place op) at = only-ends (evaluate_op core calls op at)
back-ends core calls tree.Skip at = tt
back-ends core calls (tree.Seq first rest) at =
    elim (goes_past first rest) as (λ b. EndsAs false
    (cond b (go_on (evaluate core calls first at) (come_back core calls rest)) (come_back core calls first at))) [
      | true ↦ on-ends (evaluate core calls first at) (come_back core calls rest) (back-ends core calls rest)
      | false ↦ back-ends core calls first at
    ]
back-ends core calls (tree.Choice left right) at =
    elim (can_return left) as (λ b. EndsAs false
    (cond b (come_back core calls left at) (come_back core calls right at))) [
      | true ↦ back-ends core calls left at
      | false ↦ back-ends core calls right at
    ]
back-ends core calls (tree.Loop body) at = back-ends core calls body at
back-ends core calls (tree.Sync lock body) at =
    ok-ends false (monitor_of lock.kind (top_value at)) (come_back core calls body (point_popped at 1))
    (back-ends core calls body (point_popped at 1))

only-same : (o : Option End) → EndsAs false o → only_back o ≡ o
only-same None ends = refl
only-same (Some (Behind at)) ends = absurd cc
only-same (Some (Back store value)) ends = refl

-- back from code nothing of what stands behind it is left
end-anywhere : (o : Option End) (todo other : List Todo) (locked : ℕ) (callers : List Frame) (locks : List Holder)
    (a : After) → EndsAs false o → IsEnd o other locked callers locks a → IsEnd o todo locked callers locks a
end-anywhere None todo other locked callers locks a ends is = is
end-anywhere (Some (Behind at)) todo other locked callers locks a ends is = absurd cc
end-anywhere (Some (Back store value)) todo other locked callers locks a ends is = is

end-unlocked : (o : Option End) (todo other : List Todo) (locked : ℕ) (callers : List Frame) (locks : List Holder)
    (monitor : Holder) (a : After) → EndsAs false o → IsEnd o other (suc locked) callers (monitor ∷ locks) a →
    IsEnd o todo locked callers locks a
end-unlocked None todo other locked callers locks monitor a ends is = is
end-unlocked (Some (Behind at)) todo other locked callers locks monitor a ends is = absurd cc
end-unlocked (Some (Back store value)) todo other locked callers locks monitor a ends is = is

module _ (core : Core) (trips : MethodId → Trip) (calls : Calls) where
  -- the same, whatever stands behind
  anywhere : (trip : Trip) (o : Option End) (todo other : List Todo) (locked : ℕ) (callers : List Frame)
      (locks : List Holder) (a : After) → EndsAs false o → Leads core trip a (IsEnd o other locked callers locks) →
      Leads core trip a (IsEnd o todo locked callers locks)
  anywhere trip o todo other locked callers locks a ends leads = λ rest.
      weaker (IsEnd o other locked callers locks) (IsEnd o todo locked callers locks) rest
      (alone core trip.steps (trip.turns ++ rest) a)
      (λ x is. end-anywhere o todo other locked callers locks x ends is) (leads rest)

  back-on : (first rest : Tree) (locked : ℕ) (a : After) (todo : List Todo) (callers : List Frame)
      (locks : List Holder) (o : Option End) → EndsAs true o → GoesBack core trips calls rest →
      Leads core (trip_along trips (passed locked first)) a (IsEnd o (before rest todo) locked callers locks) →
      Leads core (trip_along trips (passed locked first ++ to_return locked rest)) a
      (IsEnd (go_on o (come_back core calls rest)) todo locked callers locks)
  back-on first rest locked a todo callers locks None ends back leads =
      subst (λ (t : Trip). Leads core t a (λ x. ⊥))
      (sym (along-both trips (passed locked first) (to_return locked rest)))
      (leads-on core (λ x. ⊥) (λ x. ⊥) (trip_along trips (passed locked first)).turns
      (trip_along trips (to_return locked rest)).turns (trip_along trips (passed locked first)).steps
      (trip_along trips (to_return locked rest)).steps a leads
      (λ x none. nowhere core (trip_along trips (to_return locked rest)) (λ y. ⊥) x none))
  back-on first rest locked a todo callers locks (Some (Behind at)) ends back leads =
      let P : After → Type 0 = IsEnd (come_back core calls rest at) todo locked callers locks in
      subst (λ (t : Trip). Leads core t a P) (sym (along-both trips (passed locked first) (to_return locked rest)))
      (leads-on core (IsEnd (Some (Behind at)) (before rest todo) locked callers locks) P
      (trip_along trips (passed locked first)).turns (trip_along trips (to_return locked rest)).turns
      (trip_along trips (passed locked first)).steps (trip_along trips (to_return locked rest)).steps a leads
      (λ x is. subst (λ (y : After). Leads core (trip_along trips (to_return locked rest)) y P) (sym is)
      (back locked at todo callers locks)))
  back-on first rest locked a todo callers locks (Some (Back store value)) ends back leads = absurd cc

  back-then : (first rest : Tree) (b : Bool) → goes_past first rest ≡ b → comes_back (tree.Seq first rest) ≡ true →
      GoesPast core trips calls first → (comes_back first ≡ true → GoesBack core trips calls first) →
      (comes_back rest ≡ true → GoesBack core trips calls rest) → (locked : ℕ) (at : Point) (todo : List Todo)
      (callers : List Frame) (locks : List Holder) →
      Leads core (trip_along trips (cond b (passed locked first ++ to_return locked rest) (to_return locked first)))
      (at_point at (before first (before rest todo)) locked callers locks)
      (IsEnd (cond b (go_on (evaluate core calls first at) (come_back core calls rest))
      (come_back core calls first at)) todo locked callers locks)
  back-then first rest true goes comes past on_first on_rest locked at todo callers locks =
      let which = late (can_end first) (can_end rest) (can_return first) (can_return rest) goes comes in
      back-on first rest locked (at_point at (before first (before rest todo)) locked callers locks) todo callers locks
      (evaluate core calls first at)
      (subst (λ (b : Bool). EndsAs b (evaluate core calls first at)) which.0 (go-ends core calls first at))
      (on_rest which.1) (past locked at (before rest todo) callers locks)
  back-then first rest false goes comes past on_first on_rest locked at todo callers locks =
      anywhere (trip_along trips (to_return locked first)) (come_back core calls first at) todo
      (before rest todo) locked
      callers locks (at_point at (before first (before rest todo)) locked callers locks) (back-ends core calls first at)
      (on_first (early (can_end first) (can_return first) (can_return rest) goes) locked at (before rest todo) callers
      locks)

  back-either : (left right : Tree) (b : Bool) → can_return left ≡ b → comes_back (tree.Choice left right) ≡ true →
      (comes_back left ≡ true → GoesBack core trips calls left) →
      (comes_back right ≡ true → GoesBack core trips calls right) →
      (locked : ℕ) (at : Point) (todo : List Todo) (callers : List Frame) (locks : List Holder) →
      Leads core (trip_along trips
      (cond b (Branched Left ∷ to_return locked left) (Branched Right ∷ to_return locked right)))
      (at_point at (Choice left right ∷ todo) locked callers locks)
      (IsEnd (cond b (come_back core calls left at) (come_back core calls right at)) todo locked callers locks)
  back-either left right true returns comes on_left on_right locked at todo callers locks =
      past-turn core (trip_along trips (to_return locked left)) Left
      (at_point at (Choice left right ∷ todo) locked callers locks)
      (at_point at (before left todo) locked callers locks)
      (IsEnd (come_back core calls left at) todo locked callers locks) (λ rest. refl)
      (on_left (returns-back left returns) locked at todo callers locks)
  back-either left right false returns comes on_left on_right locked at todo callers locks =
      past-turn core (trip_along trips (to_return locked right)) Right
      (at_point at (Choice left right ∷ todo) locked callers locks)
      (at_point at (before right todo) locked callers locks)
      (IsEnd (come_back core calls right at) todo locked callers locks) (λ rest. refl)
      (on_right (right-back (can_end left) (can_end right) (can_return left) (can_return right) returns comes)
      locked at todo callers locks)

  back-lock : (body : Tree) (locked : ℕ) (at : Point) (todo : List Todo) (callers : List Frame) (locks : List Holder)
      (r : Result Holder Why) → GoesBack core trips calls body → (rest : List Turn) →
      let trip = trip_along trips (to_return (suc locked) body) in
      ComesTo (IsEnd (on_ok r (come_back core calls body (point_popped at 1))) todo locked callers locks) rest
      (onward (λ a. alone core trip.steps (trip.turns ++ rest) a)
      (lock_with [] (spot_at at todo locked callers locks) body r))
  back-lock body locked at todo callers locks (Err why) back rest = tt
  back-lock body locked at todo callers locks (Ok monitor) back rest =
      let trip = trip_along trips (to_return (suc locked) body) in
      let o : Option End = come_back core calls body (point_popped at 1) in
      weaker (IsEnd o (Unlock ∷ todo) (suc locked) callers (monitor ∷ locks)) (IsEnd o todo locked callers locks) rest
      (alone core trip.steps (trip.turns ++ rest)
      (at_point (point_popped at 1) (before body (Unlock ∷ todo)) (suc locked) callers (monitor ∷ locks)))
      (λ x is. end-unlocked o todo (Unlock ∷ todo) locked callers locks monitor x
      (back-ends core calls body (point_popped at 1)) is)
      (back (suc locked) (point_popped at 1) (Unlock ∷ todo) callers (monitor ∷ locks) rest)

module _ (core : Core) (trips : MethodId → Trip) (calls : Calls) (test : MethodId → Bool)
    (holds : (m : MethodId) → test m ≡ true → MethodGoes core trips calls m) where
  pub goes-back : (code : Tree) → comes_back code ≡ true → do_pass test (steps_of code) ≡ true →
      GoesBack core trips calls code
  goes-back (tree.Op site place op) comes all = λ locked at todo callers locks.
      subst (λ (o : Option End). Leads core (trip_along trips (passed_op locked place op))
      (at_point at (Op place op ∷ todo) locked callers locks) (IsEnd o todo locked callers locks))
      (sym (only-same (evaluate_op core calls op at)
      (subst (λ (b : Bool). EndsAs b (evaluate_op core calls op at)) (op-stops op comes)
      (go-ends core calls (tree.Op site place op) at))))
      (goes-past core trips calls test holds (tree.Op site place op) all locked at todo callers locks)
  goes-back tree.Skip comes all = absurd cc
  goes-back (tree.Seq first rest) comes all =
      let both = pass-both test (steps_of first) (steps_of rest) all in
      let ahead = (and_parts (do_pass test (steps_of first)) (do_pass test (steps_of rest)) both).0 in
      let behind = (and_parts (do_pass test (steps_of first)) (do_pass test (steps_of rest)) both).1 in
      back-then core trips calls first rest (goes_past first rest) refl comes
      (goes-past core trips calls test holds first ahead) (λ c. goes-back first c ahead) (λ c. goes-back rest c behind)
  goes-back (tree.Choice left right) comes all =
      let both = pass-both test (steps_of left) (steps_of right) all in
      let ahead = (and_parts (do_pass test (steps_of left)) (do_pass test (steps_of right)) both).0 in
      let behind = (and_parts (do_pass test (steps_of left)) (do_pass test (steps_of right)) both).1 in
      back-either core trips calls left right (can_return left) refl comes (λ c. goes-back left c ahead)
      (λ c. goes-back right c behind)
  goes-back (tree.Loop body) comes all = λ locked at todo callers locks.
      past-turn core (trip_along trips (to_return locked body)) Left
      (at_point at (Loop body ∷ todo) locked callers locks)
      (at_point at (before body (Loop body ∷ todo)) locked callers locks)
      (IsEnd (come_back core calls body at) todo locked callers locks) (λ rest. refl)
      (anywhere core trips calls (trip_along trips (to_return locked body)) (come_back core calls body at) todo
      (Loop body ∷ todo) locked callers locks (at_point at (before body (Loop body ∷ todo)) locked callers locks)
      (back-ends core calls body at)
      (goes-back body (returns-back body comes) all locked at (Loop body ∷ todo) callers locks))
  goes-back (tree.Sync lock body) comes all = λ locked at todo callers locks.
      let trip = trip_along trips (to_return (suc locked) body) in
      one-more core trip.turns trip.steps (1 + trip.steps) (at_point at (Sync lock body ∷ todo) locked callers locks)
      (IsEnd (come_back core calls (tree.Sync lock body) at) todo locked callers locks) (omega arith)
      (back-lock core trips calls body locked at todo callers locks (monitor_of lock.kind (top_value at))
      (goes-back body comes all))
