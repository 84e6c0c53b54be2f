-- Code that is gone into up to a site, run by one thread beside one that holds no monitor.
use Rattle.std.proofs.Common.{◌≡◌, ℕ, suc, ◌+◌, Bool, true, false, cond, ◌&&◌, List, [], ◌∷◌, ◌++◌}
use Rattle.std.proofs.Common.{Option, None, Some, is_some, length, drop, nat_eq, slice_index_or}
use Rattle.std.proofs.Common.{refl, sym, ap, subst, ◌∙◌, append_assoc, arith}
use Rattle.std.proofs.lemmas.List.{length-append}
use Rattle.std.proofs.lemmas.List.Folds.{find-append}
use Rattle.std.specs.Option.{option_or}
use Rattle.std.specs.Prelude.{Result, Ok, Err}
use Rattle.std.proofs.lemmas.Bool.{and_parts}
use Rattle.racer_base.specs.declared.ids.MethodId.{MethodId}
use Rattle.racer_base.specs.declared.ids.SiteId.{SiteId}
use Rattle.racer_base.specs.declared.ids.Place.{Place}
use Rattle.core_code.specs.declared.code.Op.{Op as CoreOp}
use Rattle.core_code.specs.Core.{Core}
use Rattle.core_code.specs.Tree.{Tree, Operation}
use Rattle.core_code.specs.Tree.{can_end, op_at, steps_of}
use Rattle.core_code.specs.Tree as tree
use Rattle.core_semantics.specs.declared.answer.Holder.{Holder}
use Rattle.core_semantics.specs.declared.answer.Turn.{Turn}
use Rattle.core_semantics.specs.declared.answer.Turn.TheVariants.{Left, Right}
use Rattle.core_semantics.specs.declared.answer.Why.{Why}
use Rattle.core_semantics.specs.declared.object.Value.{Value}
use Rattle.core_semantics.specs.declared.object.Value.TheVariants.{Null}
use Rattle.core_semantics.specs.State.{Frame, Store, Todo, Op, Choice, Loop, Sync, Unlock, before}
use Rattle.core_semantics.specs.Steps.{After, lock_with, monitor_of}
use Rattle.core_ways.specs.declared.part.WayPart.TheVariants.{Branched}
use Rattle.core_ways.specs.Alone.{ComesTo, IsAt, IsBefore, IsBehind, RunsPast, RunsTo, alone, here}
use Rattle.core_ways.specs.Alone.{do_end_before}
use Rattle.core_ways.specs.Alone.{locks_round, onward}
use Rattle.core_ways.specs.Ways.{Trip, has_site, passed, reached, trip_along}
use Rattle.core_ways.specs.Alone.{MethodRuns}
use Rattle.core_ways.proofs.Alone.{Leads, along-both, leads-on, one-more, past-turn, runs-past, spot, weaker}
use Rattle.core_ways.proofs.Callees.{do_pass, pass-both}

pub first-of : (p q : Option Operation) (o : Operation) → is_some p ≡ true → option_or p q ≡ Some o → p ≡ Some o
first-of None q o has is = absurd cc
first-of (Some x) q o has is = is

pub second-of : (p q : Option Operation) (o : Operation) → is_some p ≡ false → option_or p q ≡ Some o → q ≡ Some o
second-of None q o has is = is
second-of (Some x) q o has is = absurd cc

pub op-first : (a b : Tree) (site : SiteId) (o : Operation) → has_site a site ≡ true →
    op_at (tree.Seq a b) site ≡ Some o →
    op_at a site ≡ Some o
op-first a b site o has is =
    first-of (op_at a site) (op_at b site) o has (sym (find-append _ (steps_of a) (steps_of b)) ∙ is)

pub op-second : (a b : Tree) (site : SiteId) (o : Operation) → has_site a site ≡ false →
    op_at (tree.Seq a b) site ≡ Some o → op_at b site ≡ Some o
op-second a b site o has is =
    second-of (op_at a site) (op_at b site) o has (sym (find-append _ (steps_of a) (steps_of b)) ∙ is)

found-here : (site : SiteId) (place : Place) (op : CoreOp) (s : SiteId) (o : Operation) →
    op_at (tree.Op site place op) s ≡ Some o → (o.place ≡ place) × (o.op ≡ op)
found-here site place op s o is =
    elim (nat_eq site.0 s.0) as (λ b. cond b (Some (record { site = site; place = place; op = op })) None ≡ Some o →
    (o.place ≡ place) × (o.op ≡ op)) [
      | true ↦ λ e. let same : record { site = site; place = place; op = op } ≡ o = cc in
          (ap (λ (x : Operation). x.place) (sym same), ap (λ (x : Operation). x.op) (sym same))
      | false ↦ λ e. absurd cc
    ] is

-- within one more lock
one-lock-more : (o : Operation) (n locked : ℕ) (callers : List Frame) (locks : List Holder) (monitor : Holder)
    (a : After) →
    IsBefore o n (suc locked) callers (monitor ∷ locks) a → IsBefore o (suc n) locked callers locks a
one-lock-more o n locked callers locks monitor a b =
    let longer = length-append b.monitors (monitor ∷ []) in
    let counted : length (b.monitors ++ monitor ∷ []) ≡ suc n = omega (arith, longer, b.count) in
    let number : n + suc locked ≡ suc n + locked = omega arith in
    record {
      store = b.store;
      vars = b.vars;
      stack = b.stack;
      todo = b.todo;
      monitors = b.monitors ++ monitor ∷ [];
      count = counted;
      is =
          b.is
          ∙ (λ i. here b.store b.vars b.stack (Op o.place o.op ∷ b.todo) (number i) callers
          (sym (append_assoc b.monitors (monitor ∷ []) locks) i));
    }

at-once : (o : Operation) (place : Place) (op : CoreOp) (locked : ℕ) (store : Store) (vars stack : List Value)
    (todo : List Todo) (callers : List Frame) (locks : List Holder) → (o.place ≡ place) × (o.op ≡ op) →
    IsBefore o 0 locked callers locks (here store vars stack (Op place op ∷ todo) locked callers locks)
at-once o place op locked store vars stack todo callers locks same =
    let number : locked ≡ 0 + locked = omega arith in
    record {
      store = store;
      vars = vars;
      stack = stack;
      todo = todo;
      monitors = [];
      count = refl;
      is = (λ i. here store vars stack (Op (sym same.0 i) (sym same.1 i) ∷ todo) (number i) callers locks);
    }

module _ (core : Core) (trips : MethodId → Trip) (site : SiteId) (o : Operation) where
  to-then : (first rest : Tree) (b : Bool) (locked : ℕ) (store : Store) (vars stack : List Value) (todo : List Todo)
      (callers : List Frame) (locks : List Holder) →
      (b ≡ true → RunsTo core trips site first o) → (b ≡ false → RunsTo core trips site rest o) →
      RunsPast core trips first →
      cond b (do_end_before site first) (can_end first && do_end_before site rest) ≡ true →
      Leads core
      (trip_along trips (cond b (reached locked site first) (passed locked first ++ reached locked site rest)))
      (here store vars stack (before first (before rest todo)) locked callers locks)
      (IsBefore o (cond b (locks_round site first) (locks_round site rest)) locked callers locks)
  to-then first rest true locked store vars stack todo callers locks on_first on_rest past ends =
      on_first refl locked store vars stack (before rest todo) callers locks
  to-then first rest false locked store vars stack todo callers locks on_first on_rest past ends =
      let P : After → Type 0 = IsBefore o (locks_round site rest) locked callers locks in
      let a : After = here store vars stack (before first (before rest todo)) locked callers locks in
      let goes : can_end first ≡ true = (and_parts (can_end first) (do_end_before site rest) ends).0 in
      subst (λ (t : Trip). Leads core t a P) (sym (along-both trips (passed locked first) (reached locked site rest)))
      (leads-on core (IsAt (before rest todo) locked callers locks) P
      (trip_along trips (passed locked first)).turns (trip_along trips (reached locked site rest)).turns
      (trip_along trips (passed locked first)).steps (trip_along trips (reached locked site rest)).steps a
      (subst (λ (x : Bool). Leads core (trip_along trips (passed locked first)) a
      (IsBehind x (before rest todo) locked callers locks)) goes
      (past locked store vars stack (before rest todo) callers locks))
      (λ x is. subst (λ (y : After). Leads core (trip_along trips (reached locked site rest)) y P)
      (sym is.3) (on_rest refl locked is.0 is.1 is.2 todo callers locks)))

  to-either : (left right : Tree) (b : Bool) (locked : ℕ) (store : Store) (vars stack : List Value) (todo : List Todo)
      (callers : List Frame) (locks : List Holder) →
      (b ≡ true → RunsTo core trips site left o) → (b ≡ false → RunsTo core trips site right o) →
      Leads core
      (trip_along trips (cond b (Branched Left ∷ reached locked site left)
      (Branched Right ∷ reached locked site right)))
      (here store vars stack (Choice left right ∷ todo) locked callers locks)
      (IsBefore o (cond b (locks_round site left) (locks_round site right)) locked callers locks)
  to-either left right true locked store vars stack todo callers locks on_left on_right =
      past-turn core (trip_along trips (reached locked site left)) Left
      (here store vars stack (Choice left right ∷ todo) locked callers locks)
      (here store vars stack (before left todo) locked callers locks)
      (IsBefore o (locks_round site left) locked callers locks) (λ rest. refl)
      (on_left refl locked store vars stack todo callers locks)
  to-either left right false locked store vars stack todo callers locks on_left on_right =
      past-turn core (trip_along trips (reached locked site right)) Right
      (here store vars stack (Choice left right ∷ todo) locked callers locks)
      (here store vars stack (before right todo) locked callers locks)
      (IsBefore o (locks_round site right) locked callers locks) (λ rest. refl)
      (on_right refl locked store vars stack todo callers locks)

  to-lock : (body : Tree) (locked : ℕ) (store : Store) (vars stack : List Value) (todo : List Todo)
      (callers : List Frame) (locks : List Holder) (r : Result Holder Why) → RunsTo core trips site body o →
      (rest : List Turn) →
      let trip = trip_along trips (reached (suc locked) site body) in
      ComesTo (IsBefore o (suc (locks_round site body)) locked callers locks) rest
      (onward (λ a. alone core trip.steps (trip.turns ++ rest) a)
      (lock_with [] (spot store vars stack todo locked callers locks) body r))
  to-lock body locked store vars stack todo callers locks (Err why) to rest = tt
  to-lock body locked store vars stack todo callers locks (Ok monitor) to rest =
      let trip = trip_along trips (reached (suc locked) site body) in
      weaker (IsBefore o (locks_round site body) (suc locked) callers (monitor ∷ locks))
      (IsBefore o (suc (locks_round site body)) locked callers locks) rest
      (alone core trip.steps (trip.turns ++ rest)
      (here store vars (drop 1 stack) (before body (Unlock ∷ todo)) (suc locked) callers (monitor ∷ locks)))
      (one-lock-more o (locks_round site body) locked callers locks monitor)
      (to (suc locked) store vars (drop 1 stack) (Unlock ∷ todo) callers (monitor ∷ locks) rest)

module _ (core : Core) (trips : MethodId → Trip) (test : MethodId → Bool)
    (holds : (m : MethodId) → test m ≡ true → MethodRuns core trips m) (site : SiteId) (o : Operation) where
  -- code is gone into up to the operation at a site
  pub runs-to : (code : Tree) → do_pass test (steps_of code) ≡ true → op_at code site ≡ Some o →
      do_end_before site code ≡ true → RunsTo core trips site code o
  runs-to (tree.Op s place op) all is ends = λ locked store vars stack todo callers locks rest.
      (refl, at-once o place op locked store vars stack todo callers locks (found-here s place op site o is))
  runs-to tree.Skip all is ends = absurd cc
  runs-to (tree.Seq first rest) all is ends =
      let both = pass-both test (steps_of first) (steps_of rest) all in
      let early = (and_parts (do_pass test (steps_of first)) (do_pass test (steps_of rest)) both).0 in
      let late = (and_parts (do_pass test (steps_of first)) (do_pass test (steps_of rest)) both).1 in
      let by : Bool → Bool = λ b. cond b (do_end_before site first) (can_end first && do_end_before site rest) in
      λ locked store vars stack todo callers locks.
      to-then core trips site o first rest (has_site first site) locked store vars stack todo callers locks
      (λ has. runs-to first early (op-first first rest site o has is) (ap by (sym has) ∙ ends))
      (λ has. runs-to rest late (op-second first rest site o has is)
      (and_parts (can_end first) (do_end_before site rest) (ap by (sym has) ∙ ends)).1)
      (runs-past core trips test holds first early) ends
  runs-to (tree.Choice left right) all is ends =
      let both = pass-both test (steps_of left) (steps_of right) all in
      let early = (and_parts (do_pass test (steps_of left)) (do_pass test (steps_of right)) both).0 in
      let late = (and_parts (do_pass test (steps_of left)) (do_pass test (steps_of right)) both).1 in
      let by : Bool → Bool = λ b. cond b (do_end_before site left) (do_end_before site right) in
      λ locked store vars stack todo callers locks.
      to-either core trips site o left right (has_site left site) locked store vars stack todo callers locks
      (λ has. runs-to left early (op-first left right site o has is) (ap by (sym has) ∙ ends))
      (λ has. runs-to right late (op-second left right site o has is) (ap by (sym has) ∙ ends))
  runs-to (tree.Loop body) all is ends = λ locked store vars stack todo callers locks.
      past-turn core (trip_along trips (reached locked site body)) Left
      (here store vars stack (Loop body ∷ todo) locked callers locks)
      (here store vars stack (before body (Loop body ∷ todo)) locked callers locks)
      (IsBefore o (locks_round site body) locked callers locks) (λ rest. refl)
      (runs-to body all is ends locked store vars stack (Loop body ∷ todo) callers locks)
  runs-to (tree.Sync lock body) all is ends = λ locked store vars stack todo callers locks.
      let trip = trip_along trips (reached (suc locked) site body) in
      one-more core trip.turns trip.steps (1 + trip.steps)
      (here store vars stack (Sync lock body ∷ todo) locked callers locks)
      (IsBefore o (suc (locks_round site body)) locked callers locks) (omega arith)
      (to-lock core trips site o body locked store vars stack todo callers locks
      (monitor_of lock.kind (slice_index_or stack 0 Null)) (runs-to body all is ends))
