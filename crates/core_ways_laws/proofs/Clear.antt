-- Code that is passed, gone through to a return or gone into up to a site, run by one thread alone, is not stuck at a
-- throw where it can end, can return or has only parts that can end before the site, and no method that it calls is.
use Rattle.std.proofs.Common.{inl}
use Rattle.std.proofs.Common.{◌≡◌, ℕ, suc, ◌+◌, Bool, true, false, cond, ◌&&◌, ◌||◌, not, List, [], ◌∷◌, ◌++◌}
use Rattle.std.proofs.Common.{refl, sym, subst, arith, drop, slice_index_or}
use Rattle.std.proofs.lemmas.List.{append-nil}
use Rattle.std.proofs.lemmas.Bool.{and_parts}
use Rattle.racer_base.specs.declared.ids.MethodId.{MethodId}
use Rattle.racer_base.specs.declared.ids.Place.{Place}
use Rattle.racer_base.specs.declared.ids.SiteId.{SiteId}
use Rattle.core_code.specs.declared.code.Op.{Op as CoreOp}
use Rattle.core_code.specs.declared.code.Op.TheVariants.{Call, Unread as UnreadCall, Ret, Throw}
use Rattle.core_code.specs.Calls.{method_at}
use Rattle.core_code.specs.Core.{Core}
use Rattle.core_code.specs.Tree.{Tree}
use Rattle.core_code.specs.Tree.{can_end, can_return, is_return, steps_of, stops}
use Rattle.core_code.specs.Tree as tree
use Rattle.core_semantics.specs.declared.answer.Holder.{Holder}
use Rattle.core_semantics.specs.declared.answer.Turn.{Turn}
use Rattle.core_semantics.specs.declared.answer.Turn.TheVariants.{Left, Right}
use Rattle.core_semantics.specs.declared.object.Value.{Value}
use Rattle.core_semantics.specs.declared.object.Value.TheVariants.{Null}
use Rattle.core_semantics.specs.State.{Frame, Store, Todo, Op, Choice, Loop, Sync, Unlock, before}
use Rattle.core_semantics.specs.Steps.{After, Spot, after}
use Rattle.core_semantics.specs.Steps.{entered, inner, inner_step}
use Rattle.core_semantics.specs.Steps.{passed_from}
use Rattle.core_semantics.specs.Steps.{with_inner, within}
use Rattle.core_ways.specs.declared.part.WayPart.{WayPart}
use Rattle.core_ways.specs.declared.part.WayPart.TheVariants.{Step, Branched}
use Rattle.core_ways.specs.Alone.{Came, IsAt, IsBehind, LeadsTo, MethodRuns}
use Rattle.core_ways.specs.Alone.{alone, do_end_before, here}
use Rattle.core_ways.specs.Ways.{Trip, goes_past, has_site, passed, reached, to_return, trip_along}
use Rattle.core_ways.proofs.Alone.{along-both, runs-past, spot, steps-of}
use Rattle.core_ways.proofs.Callees.{do_pass, pass-both}
use Rattle.core_ways_laws.proofs.ClearSteps.{LeadsClear, ClearPast, ClearBack, ClearTo, MethodClear, AreCallsClear}
use Rattle.core_ways_laws.proofs.ClearSteps.{first-clear, last-clear, onward-clear, within-clear, inner-clear, clear-on}
use Rattle.core_ways_laws.proofs.ClearSteps.{Clear, more-clear, turn-clear, call-clear, ret-clear, lock-clear}

module _ (core : Core) (trips : MethodId → Trip) (test : MethodId → Bool)
    (holds : (m : MethodId) → test m ≡ true → MethodRuns core trips m) where
  op-clear : (site : SiteId) (place : Place) (op : CoreOp) → not (stops op) ≡ true →
      ((m : MethodId) (n : ℕ) → op ≡ Call m n → MethodClear core trips m) → ClearPast core trips (tree.Op site place op)
  op-clear site place (Call m n) goes clear = λ locked store vars stack todo callers locks.
      let inside : MethodClear core trips m = clear m n refl in
      let turns : (trips m).turns ≡ ([] ++ (trips m).turns) ++ [] = sym (append-nil (trips m).turns) in
      let steps : suc (trips m).steps ≡ (1 + (trips m).steps) + 0 = omega arith in
      let a : After = here store vars stack (Op place (Call m n) ∷ todo) locked callers locks in
      subst (λ (ts : List Turn). LeadsClear core ts ((1 + (trips m).steps) + 0) a) turns
      (more-clear core (trips m).turns (trips m).steps ((1 + (trips m).steps) + 0) a steps
      (λ rest. call-clear core m n (spot store vars stack todo locked callers locks)
      (λ x. alone core (trips m).steps ((trips m).turns ++ rest) x) (method_at core m) refl
      (λ method is.
      let frame : Frame = record { vars = vars; stack = stack; todo = todo; locked = locked } in
      let back : Frame = record { vars = vars; stack = drop n stack; todo = todo; locked = locked } in
      inside method is store (entered method (passed_from frame n)).vars (back ∷ callers) locks rest)))
  op-clear site place Ret goes clear = absurd cc
  op-clear site place Throw goes clear = absurd cc
  op-clear site place (UnreadCall m n) goes clear = λ locked store vars stack todo callers locks rest. refl
  op-clear site place op goes clear = λ locked store vars stack todo callers locks rest.
      let s : Spot = spot store vars stack todo locked callers locks in
      onward-clear (λ a. Came a rest) (within (λ i. after (with_inner s i)) (inner_step core (inner s) op)) (λ a. tt)
      (within-clear (λ i. after (with_inner s i)) (inner_step core (inner s) op)
      (inner-clear core (inner s) op refl))

  -- code that can end, where it is passed, comes to its end
  past : (code : Tree) → can_end code ≡ true → do_pass test (steps_of code) ≡ true → (locked : ℕ) (store : Store)
      (vars stack : List Value) (todo : List Todo) (callers : List Frame) (locks : List Holder) →
      LeadsTo core (trip_along trips (passed locked code)).turns (trip_along trips (passed locked code)).steps
      (here store vars stack (before code todo) locked callers locks) (IsAt todo locked callers locks)
  past code ends all locked store vars stack todo callers locks =
      subst (λ (b : Bool). LeadsTo core (trip_along trips (passed locked code)).turns
      (trip_along trips (passed locked code)).steps (here store vars stack (before code todo) locked callers locks)
      (IsBehind b todo locked callers locks)) ends
      (runs-past core trips test holds code all locked store vars stack todo callers locks)

  -- code that can end, and then the rest
  past-clear : (first : Tree) (more : List WayPart) (locked : ℕ) (store : Store) (vars stack : List Value)
      (todo : List Todo) (callers : List Frame) (locks : List Holder) → can_end first ≡ true →
      do_pass test (steps_of first) ≡ true → ClearPast core trips first →
      ((x : After) → IsAt todo locked callers locks x → Clear core (trip_along trips more) x) →
      Clear core (trip_along trips (passed locked first ++ more))
      (here store vars stack (before first todo) locked callers locks)
  past-clear first more locked store vars stack todo callers locks ends all clear_first rest =
      let a : After = here store vars stack (before first todo) locked callers locks in
      subst (λ (t : Trip). Clear core t a) (sym (along-both trips (passed locked first) more))
      (clear-on core (IsAt todo locked callers locks)
      (trip_along trips (passed locked first)).turns (trip_along trips more).turns
      (trip_along trips (passed locked first)).steps (trip_along trips more).steps a
      (past first ends all locked store vars stack todo callers locks)
      (clear_first locked store vars stack todo callers locks) rest)

  -- what is clear from each such place is clear from where code ends
  from-there : (code : Tree) (parts : List WayPart) (locked : ℕ) (todo : List Todo) (callers : List Frame)
      (locks : List Holder) →
      ((store : Store) (vars stack : List Value) →
      Clear core (trip_along trips parts) (here store vars stack (before code todo) locked callers locks)) →
      (x : After) → IsAt (before code todo) locked callers locks x → Clear core (trip_along trips parts) x
  from-there code parts locked todo callers locks each x is =
      subst (λ (y : After). Clear core (trip_along trips parts) y) (sym is.3) (each is.0 is.1 is.2)

  -- behind a lock's body
  unlock-clear : (todo : List Todo) (locked : ℕ) (callers : List Frame) (locks : List Holder) (monitor : Holder)
      (x : After) → IsAt (Unlock ∷ todo) (suc locked) callers (monitor ∷ locks) x →
      Clear core (trip_along trips (Step ∷ [])) x
  unlock-clear todo locked callers locks monitor x is =
      subst (λ (y : After). Clear core (trip_along trips (Step ∷ [])) y) (sym is.3) (λ rest. tt)

  side-clear : (left right : Tree) (b : Bool) → can_end right ≡ b → can_end (tree.Choice left right) ≡ true →
      (can_end left ≡ true → ClearPast core trips left) → (can_end right ≡ true → ClearPast core trips right) →
      (locked : ℕ) (store : Store) (vars stack : List Value) (todo : List Todo) (callers : List Frame)
      (locks : List Holder) →
      Clear core (trip_along trips (cond b (Branched Right ∷ passed locked right) (Branched Left ∷ passed locked left)))
      (here store vars stack (Choice left right ∷ todo) locked callers locks)
  side-clear left right true ends whole on_left on_right locked store vars stack todo callers locks =
      turn-clear core (trip_along trips (passed locked right)) Right
      (here store vars stack (Choice left right ∷ todo) locked callers locks)
      (here store vars stack (before right todo) locked callers locks) (λ rest. refl)
      (on_right ends locked store vars stack todo callers locks)
  side-clear left right false ends whole on_left on_right locked store vars stack todo callers locks =
      turn-clear core (trip_along trips (passed locked left)) Left
      (here store vars stack (Choice left right ∷ todo) locked callers locks)
      (here store vars stack (before left todo) locked callers locks) (λ rest. refl)
      (on_left (left-ends (can_end left) (can_end right) ends whole) locked store vars stack todo callers locks)
    where
      left-ends : (a b : Bool) → b ≡ false → (a || b) ≡ true → a ≡ true
      left-ends true b off h = refl
      left-ends false true off h = absurd cc
      left-ends false false off h = h

  pub clears-past : (code : Tree) → can_end code ≡ true → do_pass test (steps_of code) ≡ true →
      AreCallsClear core trips code → ClearPast core trips code
  clears-past (tree.Op site place op) ends all clear =
      op-clear site place op ends (λ m n is. clear (record { site = site; place = place; op = op }) (inl refl) m n is)
  clears-past tree.Skip ends all clear = λ locked store vars stack todo callers locks rest. tt
  clears-past (tree.Seq first rest) ends all clear = λ locked store vars stack todo callers locks.
      let both = pass-both test (steps_of first) (steps_of rest) all in
      let early = (and_parts (do_pass test (steps_of first)) (do_pass test (steps_of rest)) both).0 in
      let late = (and_parts (do_pass test (steps_of first)) (do_pass test (steps_of rest)) both).1 in
      let one = (and_parts (can_end first) (can_end rest) ends).0 in
      let two = (and_parts (can_end first) (can_end rest) ends).1 in
      subst (λ (b : Bool). Clear core (trip_along trips (passed locked first ++ cond b (passed locked rest) []))
      (here store vars stack (before first (before rest todo)) locked callers locks)) (sym one)
      (past-clear first (passed locked rest) locked store vars stack (before rest todo) callers locks one early
      (clears-past first one early (first-clear core trips first rest clear))
      (from-there rest (passed locked rest) locked todo callers locks
      (λ st vs ss. clears-past rest two late (last-clear core trips first rest clear) locked st vs ss todo
      callers locks)))
  clears-past (tree.Choice left right) ends all clear =
      let both = pass-both test (steps_of left) (steps_of right) all in
      let early = (and_parts (do_pass test (steps_of left)) (do_pass test (steps_of right)) both).0 in
      let late = (and_parts (do_pass test (steps_of left)) (do_pass test (steps_of right)) both).1 in
      side-clear left right (can_end right) refl ends
      (λ e. clears-past left e early (first-clear core trips left right clear))
      (λ e. clears-past right e late (last-clear core trips left right clear))
  clears-past (tree.Loop body) ends all clear = λ locked store vars stack todo callers locks rest. tt
  clears-past (tree.Sync lock body) ends all clear = λ locked store vars stack todo callers locks.
      let trip = trip_along trips (passed (suc locked) body ++ cond (can_end body) (Step ∷ []) []) in
      more-clear core trip.turns trip.steps (1 + trip.steps)
      (here store vars stack (Sync lock body ∷ todo) locked callers locks) (omega arith)
      (λ rest. lock-clear core store vars stack todo locked callers locks lock body
      (λ a. alone core trip.steps (trip.turns ++ rest) a) (slice_index_or stack 0 Null)
      (λ monitor.
      subst (λ (b : Bool). Clear core (trip_along trips (passed (suc locked) body ++ cond b (Step ∷ []) []))
      (here store vars (drop 1 stack) (before body (Unlock ∷ todo)) (suc locked) callers (monitor ∷ locks))) (sym ends)
      (past-clear body (Step ∷ []) (suc locked) store vars (drop 1 stack) (Unlock ∷ todo) callers (monitor ∷ locks) ends
      all (clears-past body ends all clear) (unlock-clear todo locked callers locks monitor)) rest))

  -- ---- to a return

  then-back : (first rest : Tree) (b : Bool) → goes_past first rest ≡ b →
      can_return (tree.Seq first rest) ≡ true → (can_end first ≡ true → can_return rest ≡ true →
      (more : List WayPart) (locked : ℕ)
      (store : Store) (vars stack : List Value) (todo : List Todo) (callers : List Frame) (locks : List Holder) →
      ((x : After) → IsAt todo locked callers locks x → Clear core (trip_along trips more) x) →
      Clear core (trip_along trips (passed locked first ++ more))
      (here store vars stack (before first todo) locked callers locks)) →
      (can_return first ≡ true → ClearBack core trips first) → (can_return rest ≡ true → ClearBack core trips rest) →
      (locked : ℕ) (store : Store) (vars stack : List Value) (todo : List Todo) (callers : List Frame)
      (locks : List Holder) →
      Clear core (trip_along trips (cond b (passed locked first ++ to_return locked rest) (to_return locked first)))
      (here store vars stack (before first (before rest todo)) locked callers locks)
  then-back first rest true goes returns past_it on_first on_rest locked store vars stack todo callers locks =
      let which = late-returns (can_end first) (can_return rest) (can_return first) goes returns in
      past_it which.0 which.1 (to_return locked rest) locked store vars stack (before rest todo) callers locks
      (from-there rest (to_return locked rest) locked todo callers locks
      (λ st vs ss. on_rest which.1 locked st vs ss todo callers locks))
    where
      late-returns : (a q r : Bool) → (a && (q || not r)) ≡ true → (r || (a && q)) ≡ true →
          (a ≡ true) × (q ≡ true)
      late-returns true true r goes returns = (refl, refl)
      late-returns true false true goes returns = absurd cc
      late-returns true false false goes returns = absurd cc
      late-returns false q r goes returns = absurd cc
  then-back first rest false goes returns past_it on_first on_rest locked store vars stack todo callers locks =
      on_first (early-returns (can_end first) (can_return rest) (can_return first) goes returns) locked store vars stack
      (before rest todo) callers locks
    where
      early-returns : (a q r : Bool) → (a && (q || not r)) ≡ false → (r || (a && q)) ≡ true → r ≡ true
      early-returns a q true goes returns = refl
      early-returns true true false goes returns = absurd cc
      early-returns true false false goes returns = absurd cc
      early-returns false q false goes returns = absurd cc

  side-back : (left right : Tree) (b : Bool) → can_return left ≡ b → can_return (tree.Choice left right) ≡ true →
      (can_return left ≡ true → ClearBack core trips left) → (can_return right ≡ true → ClearBack core trips right) →
      (locked : ℕ) (store : Store) (vars stack : List Value) (todo : List Todo) (callers : List Frame)
      (locks : List Holder) →
      Clear core (trip_along trips
      (cond b (Branched Left ∷ to_return locked left) (Branched Right ∷ to_return locked right)))
      (here store vars stack (Choice left right ∷ todo) locked callers locks)
  side-back left right true returns whole on_left on_right locked store vars stack todo callers locks =
      turn-clear core (trip_along trips (to_return locked left)) Left
      (here store vars stack (Choice left right ∷ todo) locked callers locks)
      (here store vars stack (before left todo) locked callers locks) (λ rest. refl)
      (on_left returns locked store vars stack todo callers locks)
  side-back left right false returns whole on_left on_right locked store vars stack todo callers locks =
      turn-clear core (trip_along trips (to_return locked right)) Right
      (here store vars stack (Choice left right ∷ todo) locked callers locks)
      (here store vars stack (before right todo) locked callers locks) (λ rest. refl)
      (on_right (right-returns (can_return left) (can_return right) returns whole) locked store vars stack todo callers
      locks)
    where
      right-returns : (r q : Bool) → r ≡ false → (r || q) ≡ true → q ≡ true
      right-returns true q off h = absurd cc
      right-returns false q off h = h

  pub clears-back : (code : Tree) → can_return code ≡ true → do_pass test (steps_of code) ≡ true →
      AreCallsClear core trips code → ClearBack core trips code
  clears-back (tree.Op site place op) comes all clear = op-back op comes
    where
      op-back : (op : CoreOp) → is_return op ≡ true → ClearBack core trips (tree.Op site place op)
      op-back Ret e = λ locked store vars stack todo callers locks.
          subst (λ (t : Trip). Clear core t (here store vars stack (Op place Ret ∷ todo) locked callers locks))
          (sym (steps-of trips (suc locked))) (ret-clear core place locked store vars stack todo callers locks)
      op-back _ e = absurd cc
  clears-back tree.Skip comes all clear = absurd cc
  clears-back (tree.Seq first rest) comes all clear =
      let both = pass-both test (steps_of first) (steps_of rest) all in
      let early = (and_parts (do_pass test (steps_of first)) (do_pass test (steps_of rest)) both).0 in
      let late = (and_parts (do_pass test (steps_of first)) (do_pass test (steps_of rest)) both).1 in
      then-back first rest (goes_past first rest) refl comes
      (λ e r more locked store vars stack todo callers locks.
      past-clear first more locked store vars stack todo callers locks e early
      (clears-past first e early (first-clear core trips first rest clear)))
      (λ e. clears-back first e early (first-clear core trips first rest clear))
      (λ e. clears-back rest e late (last-clear core trips first rest clear))
  clears-back (tree.Choice left right) comes all clear =
      let both = pass-both test (steps_of left) (steps_of right) all in
      let early = (and_parts (do_pass test (steps_of left)) (do_pass test (steps_of right)) both).0 in
      let late = (and_parts (do_pass test (steps_of left)) (do_pass test (steps_of right)) both).1 in
      side-back left right (can_return left) refl comes
      (λ e. clears-back left e early (first-clear core trips left right clear))
      (λ e. clears-back right e late (last-clear core trips left right clear))
  clears-back (tree.Loop body) comes all clear = λ locked store vars stack todo callers locks.
      turn-clear core (trip_along trips (to_return locked body)) Left
      (here store vars stack (Loop body ∷ todo) locked callers locks)
      (here store vars stack (before body (Loop body ∷ todo)) locked callers locks) (λ rest. refl)
      (clears-back body comes all clear locked store vars stack (Loop body ∷ todo) callers locks)
  clears-back (tree.Sync lock body) comes all clear = λ locked store vars stack todo callers locks.
      let trip = trip_along trips (to_return (suc locked) body) in
      more-clear core trip.turns trip.steps (1 + trip.steps)
      (here store vars stack (Sync lock body ∷ todo) locked callers locks) (omega arith)
      (λ rest. lock-clear core store vars stack todo locked callers locks lock body
      (λ a. alone core trip.steps (trip.turns ++ rest) a) (slice_index_or stack 0 Null)
      (λ monitor.
      clears-back body comes all clear (suc locked) store vars (drop 1 stack) (Unlock ∷ todo) callers (monitor ∷ locks)
      rest))

  -- ---- up to a site

  then-to : (site : SiteId) (first rest : Tree) (b : Bool) →
      cond b (do_end_before site first) (can_end first && do_end_before site rest) ≡ true →
      do_pass test (steps_of first) ≡ true →
      (b ≡ false → can_end first ≡ true → ClearPast core trips first) →
      (b ≡ true → do_end_before site first ≡ true → ClearTo core trips site first) →
      (b ≡ false → do_end_before site rest ≡ true → ClearTo core trips site rest) →
      (locked : ℕ) (store : Store) (vars stack : List Value) (todo : List Todo) (callers : List Frame)
      (locks : List Holder) →
      Clear core
      (trip_along trips (cond b (reached locked site first) (passed locked first ++ reached locked site rest)))
      (here store vars stack (before first (before rest todo)) locked callers locks)
  then-to site first rest true ends early past_first on_first on_rest locked store vars stack todo callers locks =
      on_first refl ends locked store vars stack (before rest todo) callers locks
  then-to site first rest false ends early past_first on_first on_rest locked store vars stack todo callers locks =
      let one = (and_parts (can_end first) (do_end_before site rest) ends).0 in
      let two = (and_parts (can_end first) (do_end_before site rest) ends).1 in
      past-clear first (reached locked site rest) locked store vars stack (before rest todo) callers locks one early
      (past_first refl one)
      (from-there rest (reached locked site rest) locked todo callers locks
      (λ st vs ss. on_rest refl two locked st vs ss todo callers locks))

  side-to : (site : SiteId) (left right : Tree) (b : Bool) →
      cond b (do_end_before site left) (do_end_before site right) ≡ true →
      (b ≡ true → do_end_before site left ≡ true → ClearTo core trips site left) →
      (b ≡ false → do_end_before site right ≡ true → ClearTo core trips site right) →
      (locked : ℕ) (store : Store) (vars stack : List Value) (todo : List Todo) (callers : List Frame)
      (locks : List Holder) →
      Clear core (trip_along trips
      (cond b (Branched Left ∷ reached locked site left) (Branched Right ∷ reached locked site right)))
      (here store vars stack (Choice left right ∷ todo) locked callers locks)
  side-to site left right true ends on_left on_right locked store vars stack todo callers locks =
      turn-clear core (trip_along trips (reached locked site left)) Left
      (here store vars stack (Choice left right ∷ todo) locked callers locks)
      (here store vars stack (before left todo) locked callers locks) (λ rest. refl)
      (on_left refl ends locked store vars stack todo callers locks)
  side-to site left right false ends on_left on_right locked store vars stack todo callers locks =
      turn-clear core (trip_along trips (reached locked site right)) Right
      (here store vars stack (Choice left right ∷ todo) locked callers locks)
      (here store vars stack (before right todo) locked callers locks) (λ rest. refl)
      (on_right refl ends locked store vars stack todo callers locks)

  pub clears-to : (site : SiteId) (code : Tree) → do_end_before site code ≡ true → do_pass test (steps_of code) ≡ true →
      AreCallsClear core trips code → ClearTo core trips site code
  clears-to site (tree.Op s place op) ends all clear = λ locked store vars stack todo callers locks rest. tt
  clears-to site tree.Skip ends all clear = λ locked store vars stack todo callers locks rest. tt
  clears-to site (tree.Seq first rest) ends all clear =
      let both = pass-both test (steps_of first) (steps_of rest) all in
      let early = (and_parts (do_pass test (steps_of first)) (do_pass test (steps_of rest)) both).0 in
      let late = (and_parts (do_pass test (steps_of first)) (do_pass test (steps_of rest)) both).1 in
      then-to site first rest (has_site first site) ends early
      (λ has e. clears-past first e early (first-clear core trips first rest clear))
      (λ has e. clears-to site first e early (first-clear core trips first rest clear))
      (λ has e. clears-to site rest e late (last-clear core trips first rest clear))
  clears-to site (tree.Choice left right) ends all clear =
      let both = pass-both test (steps_of left) (steps_of right) all in
      let early = (and_parts (do_pass test (steps_of left)) (do_pass test (steps_of right)) both).0 in
      let late = (and_parts (do_pass test (steps_of left)) (do_pass test (steps_of right)) both).1 in
      side-to site left right (has_site left site) ends
      (λ has e. clears-to site left e early (first-clear core trips left right clear))
      (λ has e. clears-to site right e late (last-clear core trips left right clear))
  clears-to site (tree.Loop body) ends all clear = λ locked store vars stack todo callers locks.
      turn-clear core (trip_along trips (reached locked site body)) Left
      (here store vars stack (Loop body ∷ todo) locked callers locks)
      (here store vars stack (before body (Loop body ∷ todo)) locked callers locks) (λ rest. refl)
      (clears-to site body ends all clear locked store vars stack (Loop body ∷ todo) callers locks)
  clears-to site (tree.Sync lock body) ends all clear = λ locked store vars stack todo callers locks.
      let trip = trip_along trips (reached (suc locked) site body) in
      more-clear core trip.turns trip.steps (1 + trip.steps)
      (here store vars stack (Sync lock body ∷ todo) locked callers locks) (omega arith)
      (λ rest. lock-clear core store vars stack todo locked callers locks lock body
      (λ a. alone core trip.steps (trip.turns ++ rest) a) (slice_index_or stack 0 Null)
      (λ monitor.
      clears-to site body ends all clear (suc locked) store vars (drop 1 stack) (Unlock ∷ todo) callers
      (monitor ∷ locks) rest))
