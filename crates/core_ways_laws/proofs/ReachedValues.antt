-- Code that is gone into towards a site, run alone, leads where it goes.
use Rattle.std.proofs.Common.{◌≡◌, ℕ, suc, ◌+◌, Bool, true, false, cond, ◌&&◌, List, [], ◌∷◌, ◌++◌}
use Rattle.std.proofs.Common.{Option, None, Some, length, nat_eq, option_map, refl, sym, ap, subst, ◌∙◌}
use Rattle.std.proofs.Common.{append_assoc, arith}
use Rattle.std.proofs.lemmas.List.{length-append}
use Rattle.std.specs.Prelude.{Result, Ok, Err}
use Rattle.std.proofs.lemmas.Bool.{and_parts}
use Rattle.racer_base.specs.declared.ids.MethodId.{MethodId}
use Rattle.racer_base.specs.declared.ids.Place.{Place}
use Rattle.racer_base.specs.declared.ids.SiteId.{SiteId}
use Rattle.core_code.specs.declared.code.Op.{Op as CoreOp}
use Rattle.core_code.specs.Core.{Core}
use Rattle.core_code.specs.Tree.{Tree, Operation}
use Rattle.core_code.specs.Tree.{can_end, op_at, steps_of}
use Rattle.core_code.specs.Tree as tree
use Rattle.core_semantics.specs.declared.answer.Holder.{Holder}
use Rattle.core_semantics.specs.declared.answer.Turn.{Turn}
use Rattle.core_semantics.specs.declared.answer.Turn.TheVariants.{Left, Right}
use Rattle.core_semantics.specs.declared.answer.Why.{Why}
use Rattle.core_semantics.specs.State.{Frame, Todo, Op, Choice, Loop, Sync, Unlock, before}
use Rattle.core_semantics.specs.Steps.{After, lock_with, monitor_of}
use Rattle.core_ways.specs.declared.part.WayPart.{WayPart}
use Rattle.core_ways.specs.declared.part.WayPart.TheVariants.{Branched}
use Rattle.core_ways.specs.Alone.{ComesTo, alone, do_end_before, locks_round, onward}
use Rattle.core_ways.specs.Ways.{Trip, entered, has_site, passed, reached, trip_along}
use Rattle.core_ways.proofs.Alone.{Leads, along-both, leads-on, one-more, past-turn, weaker}
use Rattle.core_ways.proofs.AloneTo.{op-first, op-second}
use Rattle.core_ways.proofs.Callees.{do_pass, pass-both}
use Rattle.core_ways_laws.specs.Values.{Behind, Back, Calls, End, Point, evaluate, on_ok, point_popped, top_value}
use Rattle.core_ways_laws.specs.Arrivals.{Arrival, Arrivals, behind_first, one_lock_more, to, arrival_at}
use Rattle.core_ways_laws.specs.RunValues.{Arrives, GoesPast, GoesTo, IsEnd, IsArrival, MethodGoes, at_point}
use Rattle.core_ways_laws.proofs.PassedValues.{EndsAs, go-ends, goes-past, spot_at}

-- ---- the operation at a site

found-here : (site : SiteId) (place : Place) (op : CoreOp) (s : SiteId) (o : Operation) →
    op_at (tree.Op site place op) s ≡ Some o → o.op ≡ op
found-here site place op s o is =
    elim (nat_eq site.0 s.0) as (λ b. cond b (Some (record { site = site; place = place; op = op })) None ≡ Some o →
    o.op ≡ op) [
      | true ↦ λ e. let same : record { site = site; place = place; op = op } ≡ o = cc in
          ap (λ (x : Operation). x.op) (sym same)
      | false ↦ λ e. absurd cc
    ] is

-- ---- within one more lock

lock-more : (o : Option Arrival) (locks : List Holder) (monitor : Holder) (a : After) →
    IsArrival o (monitor ∷ locks) a → IsArrival (option_map one_lock_more o) locks a
lock-more None locks monitor a is = is
lock-more (Some arrival) locks monitor a b =
    let longer = length-append b.monitors (monitor ∷ []) in
    let counted : length (b.monitors ++ monitor ∷ []) ≡ suc arrival.locks = omega (arith, longer, b.count) in
    record {
      place = b.place;
      todo = b.todo;
      locked = b.locked;
      callers = b.callers;
      monitors = b.monitors ++ monitor ∷ [];
      count = counted;
      is =
          b.is
          ∙ (λ i. at_point arrival.at (Op b.place arrival.op ∷ b.todo) b.locked b.callers
          (sym (append_assoc b.monitors (monitor ∷ []) locks) i));
    }

-- ---- runs

module _ (core : Core) (trips : MethodId → Trip) (calls : Calls) (arrivals : Arrivals)
    (ways : MethodId → ℕ → List WayPart)
    (site : SiteId) (below : Option ℕ) (op : CoreOp) where
  abbrev Goes : Tree → Type 0
  Goes code = GoesTo core trips ways site below op code (to core calls arrivals site below code)

  abbrev more : List WayPart
  more = entered ways below op

  behind-passed : (first rest : Tree) (locked : ℕ) (a : After) (todo : List Todo) (callers : List Frame)
      (locks : List Holder) (o : Option End) → EndsAs true o → Goes rest →
      Leads core (trip_along trips (passed locked first)) a (IsEnd o (before rest todo) locked callers locks) →
      Leads core (trip_along trips (passed locked first ++ (reached locked site rest ++ more))) a
      (IsArrival (behind_first o (to core calls arrivals site below rest)) locks)
  behind-passed first rest locked a todo callers locks None ends goes leads =
      let later : List WayPart = reached locked site rest ++ more in
      subst (λ (t : Trip). Leads core t a (λ x. ⊥)) (sym (along-both trips (passed locked first) later))
      (leads-on core (λ x. ⊥) (λ x. ⊥) (trip_along trips (passed locked first)).turns (trip_along trips later).turns
      (trip_along trips (passed locked first)).steps (trip_along trips later).steps a leads (λ x none. absurd none))
  behind-passed first rest locked a todo callers locks (Some (Behind at)) ends goes leads =
      let later : List WayPart = reached locked site rest ++ more in
      let P : After → Type 0 = IsArrival (to core calls arrivals site below rest at) locks in
      subst (λ (t : Trip). Leads core t a P) (sym (along-both trips (passed locked first) later))
      (leads-on core (IsEnd (Some (Behind at)) (before rest todo) locked callers locks) P
      (trip_along trips (passed locked first)).turns (trip_along trips later).turns
      (trip_along trips (passed locked first)).steps (trip_along trips later).steps a leads
      (λ x is. subst (λ (y : After). Leads core (trip_along trips later) y P) (sym is)
      (goes locked at todo callers locks)))
  behind-passed first rest locked a todo callers locks (Some (Back store value)) ends goes leads = absurd cc

  to-then : (first rest : Tree) (b : Bool) (locked : ℕ) (at : Point) (todo : List Todo) (callers : List Frame)
      (locks : List Holder) → (b ≡ true → Goes first) → (b ≡ false → Goes rest) → GoesPast core trips calls first →
      cond b (do_end_before site first) (can_end first && do_end_before site rest) ≡ true →
      Leads core
      (trip_along trips
      (cond b (reached locked site first) (passed locked first ++ reached locked site rest) ++ more))
      (at_point at (before first (before rest todo)) locked callers locks)
      (IsArrival (cond b (to core calls arrivals site below first at)
      (behind_first (evaluate core calls first at) (to core calls arrivals site below rest))) locks)
  to-then first rest true locked at todo callers locks on_first on_rest past ends =
      on_first refl locked at (before rest todo) callers locks
  to-then first rest false locked at todo callers locks on_first on_rest past ends =
      let a : After = at_point at (before first (before rest todo)) locked callers locks in
      let goes : can_end first ≡ true = (and_parts (can_end first) (do_end_before site rest) ends).0 in
      subst (λ (ps : List WayPart). Leads core (trip_along trips ps) a
      (IsArrival (behind_first (evaluate core calls first at) (to core calls arrivals site below rest)) locks))
      (sym (append_assoc (passed locked first) (reached locked site rest) more))
      (behind-passed first rest locked a todo callers locks (evaluate core calls first at)
      (subst (λ (x : Bool). EndsAs x (evaluate core calls first at)) goes (go-ends core calls first at)) (on_rest refl)
      (past locked at (before rest todo) callers locks))

  to-either : (left right : Tree) (b : Bool) (locked : ℕ) (at : Point) (todo : List Todo) (callers : List Frame)
      (locks : List Holder) → (b ≡ true → Goes left) → (b ≡ false → Goes right) →
      Leads core
      (trip_along trips
      (cond b (Branched Left ∷ reached locked site left) (Branched Right ∷ reached locked site right) ++ more))
      (at_point at (Choice left right ∷ todo) locked callers locks)
      (IsArrival (cond b (to core calls arrivals site below left at) (to core calls arrivals site below right at))
      locks)
  to-either left right true locked at todo callers locks on_left on_right =
      past-turn core (trip_along trips (reached locked site left ++ more)) Left
      (at_point at (Choice left right ∷ todo) locked callers locks)
      (at_point at (before left todo) locked callers locks)
      (IsArrival (to core calls arrivals site below left at) locks) (λ rest. refl)
      (on_left refl locked at todo callers locks)
  to-either left right false locked at todo callers locks on_left on_right =
      past-turn core (trip_along trips (reached locked site right ++ more)) Right
      (at_point at (Choice left right ∷ todo) locked callers locks)
      (at_point at (before right todo) locked callers locks)
      (IsArrival (to core calls arrivals site below right at) locks) (λ rest. refl)
      (on_right refl locked at todo callers locks)

  to-lock : (body : Tree) (locked : ℕ) (at : Point) (todo : List Todo) (callers : List Frame) (locks : List Holder)
      (r : Result Holder Why) → Goes body → (rest : List Turn) →
      let trip = trip_along trips (reached (suc locked) site body ++ more) in
      let o : Option Arrival = to core calls arrivals site below body (point_popped at 1) in
      ComesTo (IsArrival (on_ok r (option_map one_lock_more o)) locks) rest
      (onward (λ a. alone core trip.steps (trip.turns ++ rest) a)
      (lock_with [] (spot_at at todo locked callers locks) body r))
  to-lock body locked at todo callers locks (Err why) goes rest = tt
  to-lock body locked at todo callers locks (Ok monitor) goes rest =
      let trip = trip_along trips (reached (suc locked) site body ++ more) in
      let o : Option Arrival = to core calls arrivals site below body (point_popped at 1) in
      weaker (IsArrival o (monitor ∷ locks)) (IsArrival (option_map one_lock_more o) locks) rest
      (alone core trip.steps (trip.turns ++ rest)
      (at_point (point_popped at 1) (before body (Unlock ∷ todo)) (suc locked) callers (monitor ∷ locks)))
      (lock-more o locks monitor)
      (goes (suc locked) (point_popped at 1) (Unlock ∷ todo) callers (monitor ∷ locks) rest)

module _ (core : Core) (trips : MethodId → Trip) (calls : Calls) (arrivals : Arrivals)
    (ways : MethodId → ℕ → List WayPart)
    (site : SiteId) (below : Option ℕ) (test : MethodId → Bool)
    (holds : (m : MethodId) → test m ≡ true → MethodGoes core trips calls m) (o : Operation)
    (arrives : Arrives core trips ways below o.op (arrival_at core arrivals below o.op)) where
  -- code is gone into towards a site, and on from the operation there
  pub goes-to : (code : Tree) → do_pass test (steps_of code) ≡ true → op_at code site ≡ Some o →
      do_end_before site code ≡ true →
      GoesTo core trips ways site below o.op code (to core calls arrivals site below code)
  goes-to (tree.Op s place op) all is ends = λ locked at todo callers locks.
      subst (λ (x : CoreOp). Leads core (trip_along trips (entered ways below o.op))
      (at_point at (Op place x ∷ todo) locked callers locks) (IsArrival (arrival_at core arrivals below x at) locks))
      (found-here s place op site o is) (arrives place locked at todo callers locks)
  goes-to tree.Skip all is ends = absurd cc
  goes-to (tree.Seq first rest) all is ends =
      let both = pass-both test (steps_of first) (steps_of rest) all in
      let early = (and_parts (do_pass test (steps_of first)) (do_pass test (steps_of rest)) both).0 in
      let late = (and_parts (do_pass test (steps_of first)) (do_pass test (steps_of rest)) both).1 in
      let by : Bool → Bool = λ b. cond b (do_end_before site first) (can_end first && do_end_before site rest) in
      λ locked at todo callers locks.
      to-then core trips calls arrivals ways site below o.op first rest
      (has_site first site) locked at todo callers locks
      (λ has. goes-to first early (op-first first rest site o has is) (ap by (sym has) ∙ ends))
      (λ has. goes-to rest late (op-second first rest site o has is)
      (and_parts (can_end first) (do_end_before site rest) (ap by (sym has) ∙ ends)).1)
      (goes-past core trips calls test holds first early) ends
  goes-to (tree.Choice left right) all is ends =
      let both = pass-both test (steps_of left) (steps_of right) all in
      let early = (and_parts (do_pass test (steps_of left)) (do_pass test (steps_of right)) both).0 in
      let late = (and_parts (do_pass test (steps_of left)) (do_pass test (steps_of right)) both).1 in
      let by : Bool → Bool = λ b. cond b (do_end_before site left) (do_end_before site right) in
      λ locked at todo callers locks.
      to-either core trips calls arrivals ways site below o.op left right
      (has_site left site) locked at todo callers locks
      (λ has. goes-to left early (op-first left right site o has is) (ap by (sym has) ∙ ends))
      (λ has. goes-to right late (op-second left right site o has is) (ap by (sym has) ∙ ends))
  goes-to (tree.Loop body) all is ends = λ locked at todo callers locks.
      past-turn core (trip_along trips (reached locked site body ++ entered ways below o.op)) Left
      (at_point at (Loop body ∷ todo) locked callers locks)
      (at_point at (before body (Loop body ∷ todo)) locked callers locks)
      (IsArrival (to core calls arrivals site below body at) locks) (λ rest. refl)
      (goes-to body all is ends locked at (Loop body ∷ todo) callers locks)
  goes-to (tree.Sync lock body) all is ends = λ locked at todo callers locks.
      let trip = trip_along trips (reached (suc locked) site body ++ entered ways below o.op) in
      one-more core trip.turns trip.steps (1 + trip.steps)
      (at_point at (Sync lock body ∷ todo) locked callers locks)
      (IsArrival (to core calls arrivals site below (tree.Sync lock body) at) locks) (omega arith)
      (to-lock core trips calls arrivals ways site below o.op body locked at todo callers locks
      (monitor_of lock.kind (top_value at)) (goes-to body all is ends))

-- ---- what comes next has what the operation at the site leads to

-- what comes next, where there is such, is so
abbrev pub OnArrival : (Arrival → Type 0) → Option Arrival → Type 0
OnArrival P None = Unit {0}
OnArrival P (Some arrival) = P arrival

ok-has : {X E : Type 0} (P : Arrival → Type 0) (r : Result X E) (o : Option Arrival) → OnArrival P o →
    OnArrival P (on_ok r o)
ok-has P (Ok x) o has = has
ok-has P (Err e) o has = tt

module _ (core : Core) (calls : Calls) (arrivals : Arrivals) (site : SiteId) (below : Option ℕ) (o : Operation)
    (P : ℕ → Arrival → Type 0) (deeper : (n : ℕ) (arrival : Arrival) → P n arrival → P (suc n) (one_lock_more arrival))
    (next : (at : Point) → OnArrival (P 0) (arrival_at core arrivals below o.op at)) where
  behind-has : (n : ℕ) (e : Option End) (rest : Point → Option Arrival) → ((at : Point) → OnArrival (P n) (rest at)) →
      OnArrival (P n) (behind_first e rest)
  behind-has n None rest has = tt
  behind-has n (Some (Behind at)) rest has = has at
  behind-has n (Some (Back store value)) rest has = tt

  then-has : (first rest : Tree) (b : Bool) (at : Point) →
      (b ≡ true → OnArrival (P (locks_round site first)) (to core calls arrivals site below first at)) →
      (b ≡ false → (x : Point) → OnArrival (P (locks_round site rest)) (to core calls arrivals site below rest x)) →
      OnArrival (P (cond b (locks_round site first) (locks_round site rest)))
      (cond b (to core calls arrivals site below first at)
      (behind_first (evaluate core calls first at) (to core calls arrivals site below rest)))
  then-has first rest true at on_first on_rest = on_first refl
  then-has first rest false at on_first on_rest =
      behind-has (locks_round site rest) (evaluate core calls first at) (to core calls arrivals site below rest)
      (on_rest refl)

  either-has : (left right : Tree) (b : Bool) (at : Point) →
      (b ≡ true → OnArrival (P (locks_round site left)) (to core calls arrivals site below left at)) →
      (b ≡ false → OnArrival (P (locks_round site right)) (to core calls arrivals site below right at)) →
      OnArrival (P (cond b (locks_round site left) (locks_round site right)))
      (cond b (to core calls arrivals site below left at) (to core calls arrivals site below right at))
  either-has left right true at on_left on_right = on_left refl
  either-has left right false at on_left on_right = on_right refl

  lock-has : (n : ℕ) (e : Option Arrival) → OnArrival (P n) e → OnArrival (P (suc n)) (option_map one_lock_more e)
  lock-has n None has = tt
  lock-has n (Some arrival) has = deeper n arrival has

  pub to-has : (code : Tree) → op_at code site ≡ Some o → (at : Point) →
      OnArrival (P (locks_round site code)) (to core calls arrivals site below code at)
  to-has (tree.Op s place op) is at =
      subst (λ (x : CoreOp). OnArrival (P 0) (arrival_at core arrivals below x at))
      (found-here s place op site o is) (next at)
  to-has tree.Skip is at = absurd cc
  to-has (tree.Seq first rest) is at =
      then-has first rest (has_site first site) at
      (λ has. to-has first (op-first first rest site o has is) at)
      (λ has. to-has rest (op-second first rest site o has is))
  to-has (tree.Choice left right) is at =
      either-has left right (has_site left site) at
      (λ has. to-has left (op-first left right site o has is) at)
      (λ has. to-has right (op-second left right site o has is) at)
  to-has (tree.Loop body) is at = to-has body is at
  to-has (tree.Sync lock body) is at =
      ok-has (P (suc (locks_round site body))) (monitor_of lock.kind (top_value at))
      (option_map one_lock_more (to core calls arrivals site below body (point_popped at 1)))
      (lock-has (locks_round site body) (to core calls arrivals site below body (point_popped at 1))
      (to-has body is (point_popped at 1)))
