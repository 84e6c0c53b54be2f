-- Methods that are passed, by rank, run alone: they come back with what their calls give.
use Rattle.std.proofs.Common.{◌≡◌, ℕ, zero, suc, ◌<◌, Bool, true, false, cond, List, [], ◌++◌}
use Rattle.std.proofs.Common.{Option, None, Some, refl, sym, ap, ◌∙◌, subst, drop, arith, nat_lt}
use Rattle.std.proofs.Common.{not, ◌||◌}
use Rattle.std.proofs.lemmas.Bool.{ltb-true, and_parts}
use Rattle.std.specs.List.{list_all}
use Rattle.racer_base.specs.declared.ids.MethodId.{MethodId}
use Rattle.core_code.specs.declared.code.Op.{Op as CoreOp}
use Rattle.core_code.specs.declared.code.Op.TheVariants.{Call}
use Rattle.core_code.specs.Calls.{called_by, is_analysed, known_below, method_at, rank_of}
use Rattle.core_code.specs.CallFacts.{ends_by_return, has_ranks}
use Rattle.core_code.specs.Core.{Core, Method}
use Rattle.core_code.specs.Tree.{Tree, Op, Skip, Seq, Choice, Loop, Sync, can_end, can_return, steps_of}
use Rattle.core_code.proofs.ByRank.{known_below-lower}
use Rattle.core_semantics.specs.declared.answer.Holder.{Holder}
use Rattle.core_semantics.specs.declared.object.Value.{Value}
use Rattle.core_semantics.specs.State.{Frame, Store, before}
use Rattle.core_semantics.specs.Steps.{After, monitor_of}
use Rattle.core_ways.specs.declared.part.WayPart.{WayPart}
use Rattle.core_ways.specs.Ways.{Trip, code_at, goes_past, to_return, trip_along, trip_of}
use Rattle.core_ways.specs.Alone.{alone}
use Rattle.access_domain.proofs.Tests.{passes_at}
use Rattle.core_ways.proofs.Alone.{Leads, drop-none, weaker}
use Rattle.core_ways.proofs.AloneMethods.{AreRight, analysed-status, calls-pass, code-there, may_call, never-ends}
use Rattle.core_ways.proofs.Callees.{do_pass, lower-calls, lower-parts, pass-both}
use Rattle.core_ways.proofs.Trips.{trip_of-parts}
use Rattle.core_ways_laws.specs.Values.{Behind, Back, Calls, End, Point, call_given, call_of, entry_point, evaluate}
use Rattle.core_ways_laws.specs.Values.{go_on}
use Rattle.core_ways_laws.specs.Values.{come_back, evaluate_op, only_back}
use Rattle.core_ways_laws.specs.Values.{on_ok, point_popped, received, returned_to, top_value, value_back}
use Rattle.core_ways_laws.specs.Values.{values_passed}
use Rattle.core_ways_laws.specs.RunValues.{GoesBack, IsBack, IsEnd, MethodGoes, at_point, back_at}
use Rattle.core_ways_laws.proofs.PassedValues.{EndsAs}
use Rattle.core_ways_laws.proofs.BackValues.{back-ends, goes-back}

-- ---- what calls give, from what the methods of smaller ranks give

module _ (core : Core) (f g : Calls) (test : MethodId → Bool) (same : (m : MethodId) → test m ≡ true → f m ≡ g m) where
  op-same : (op : CoreOp) → list_all test (called_by op ++ []) ≡ true →
      ◌≡◌ {A = Point → Option End} (λ at. evaluate_op core f op at) (λ at. evaluate_op core g op at)
  op-same (Call m n) all = (λ i at. elim (method_at core m) as (λ _. Option End) [
    | None ↦ None
    | Some method ↦
        received method (values_passed at n)
        (returned_to at n (same m (and_parts (test m) true all).0 i (values_passed at n) at.store))
  ])
  op-same op all = refl

  pub go-same : (code : Tree) → do_pass test (steps_of code) ≡ true →
      ◌≡◌ {A = Point → Option End} (λ at. evaluate core f code at) (λ at. evaluate core g code at)
  go-same (Op site place op) all = op-same op all
  go-same Skip all = refl
  go-same (Seq first rest) all =
      let both = pass-both test (steps_of first) (steps_of rest) all in
      let early = go-same first (and_parts (do_pass test (steps_of first)) (do_pass test (steps_of rest)) both).0 in
      let late = go-same rest (and_parts (do_pass test (steps_of first)) (do_pass test (steps_of rest)) both).1 in
      (λ i at. go_on (early i at) (late i))
  go-same (Choice left right) all =
      let both = pass-both test (steps_of left) (steps_of right) all in
      let l = go-same left (and_parts (do_pass test (steps_of left)) (do_pass test (steps_of right)) both).0 in
      let r = go-same right (and_parts (do_pass test (steps_of left)) (do_pass test (steps_of right)) both).1 in
      (λ i at. cond (can_end right) (r i at) (l i at))
  go-same (Loop body) all = refl
  go-same (Sync lock body) all =
      let inside = go-same body all in
      (λ i at. on_ok (monitor_of lock.kind (top_value at)) (inside i (point_popped at 1)))

  pub back-same : (code : Tree) → do_pass test (steps_of code) ≡ true →
      ◌≡◌ {A = Point → Option End} (λ at. come_back core f code at) (λ at. come_back core g code at)
  back-same (Op site place op) all = (λ i at. only_back (op-same op all i at))
  back-same Skip all = refl
  back-same (Seq first rest) all =
      let both = pass-both test (steps_of first) (steps_of rest) all in
      let early = (and_parts (do_pass test (steps_of first)) (do_pass test (steps_of rest)) both).0 in
      let past = go-same first early in
      let back = back-same first early in
      let late = back-same rest (and_parts (do_pass test (steps_of first)) (do_pass test (steps_of rest)) both).1 in
      (λ i at. cond (goes_past first rest) (go_on (past i at) (late i)) (back i at))
  back-same (Choice left right) all =
      let both = pass-both test (steps_of left) (steps_of right) all in
      let l = back-same left (and_parts (do_pass test (steps_of left)) (do_pass test (steps_of right)) both).0 in
      let r = back-same right (and_parts (do_pass test (steps_of left)) (do_pass test (steps_of right)) both).1 in
      (λ i at. cond (can_return left) (l i at) (r i at))
  back-same (Loop body) all = back-same body all
  back-same (Sync lock body) all =
      let inside = back-same body all in
      (λ i at. on_ok (monitor_of lock.kind (top_value at)) (inside i (point_popped at 1)))

abbrev lower : Core → MethodId → MethodId → Bool
lower core m n = nat_lt (rank_of core n) (rank_of core m)

abbrev inner_calls : Core → MethodId → Calls
inner_calls core m = known_below (λ values store. None) (call_given core) core (rank_of core m)

-- coming back from the code of an analysed method, with what the calls of all methods give
pub back-closed : (core : Core) → has_ranks core ≡ true → (m : MethodId) (method : Method) →
    method_at core m ≡ Some method → is_analysed core m ≡ true →
    ◌≡◌ {A = Point → Option End} (λ at. come_back core (inner_calls core m) method.code at)
    (λ at. come_back core (call_of core) method.code at)
back-closed core ranks m method is analysed =
    back-same core (inner_calls core m) (call_of core) (lower core m)
    (λ n low. known_below-lower (λ values store. None) (call_given core) core (rank_of core m) n
    (ltb-true (rank_of core n) (rank_of core m) low)) method.code
    (lower-calls core m method.code ranks (code-there core m method is analysed))

-- a call of an analysed method gives what its code gives
pub call_of-code : (core : Core) → has_ranks core ≡ true → (m : MethodId) (method : Method) →
    method_at core m ≡ Some method → is_analysed core m ≡ true →
    ◌≡◌ {A = List Value → Store → Option (Store × Value)} (call_of core m)
    (λ values store. value_back (come_back core (call_of core) method.code (entry_point method values store)))
call_of-code core ranks m method is analysed =
    (λ i values store. elim (is i) as (λ _. Option (Store × Value)) [
      | None ↦ None
      | Some x ↦ value_back (come_back core (inner_calls core m) x.code (entry_point x values store))
    ])
    ∙ (λ i values store.
    value_back (back-closed core ranks m method is analysed i (entry_point method values store)))

-- ---- runs

-- code that cannot end comes back
comes-back : (o : Option End) (callers : List Frame) (locks : List Holder) (a : After) → EndsAs false o →
    IsEnd o [] 0 callers locks a → IsBack (value_back o) callers locks a
comes-back None callers locks a ends is = is
comes-back (Some (Behind at)) callers locks a ends is = absurd cc
comes-back (Some (Back store value)) callers locks a ends is =
    is ∙ ap (λ (ls : List Holder). back_at callers ls store value) (drop-none locks)

-- the code of an analysed method cannot end
pub code-never-ends : (core : Core) (right : AreRight core) (m : MethodId) (method : Method) →
    method_at core m ≡ Some method → is_analysed core m ≡ true → can_end method.code ≡ false
code-never-ends core right m method is analysed =
    never-ends method.status (can_end method.code)
    (analysed-status core m method is analysed)
    (passes_at ends_by_return core.methods m.0 method right.ends is)

pub method-goes : (core : Core) (right : AreRight core) (k : ℕ) (m : MethodId) → rank_of core m < k →
    is_analysed core m ≡ true → MethodGoes core (trip_of core) (call_of core) m
method-goes core right zero m low analysed method is = absurd (omega arith)
method-goes core right (suc k) m low analysed method is =
    let code = method.code in
    let at : code_at core m ≡ Some code = code-there core m method is analysed in
    let calls : do_pass (may_call core m) (steps_of code) ≡ true = calls-pass core right m method is at in
    let holds : (n : MethodId) → may_call core m n ≡ true → MethodGoes core (trip_of core) (call_of core) n = λ n may.
    method-goes core right k n
    (let below = ltb-true (rank_of core n) (rank_of core m)
    (and_parts (nat_lt (rank_of core n) (rank_of core m)) (is_analysed core n) may).0 in omega arith)
    (and_parts (nat_lt (rank_of core n) (rank_of core m)) (is_analysed core n) may).1 in
    let ends : can_end code ≡ false = code-never-ends core right m method is analysed in
    let back : GoesBack core (trip_of core) (call_of core) code =
    goes-back core (trip_of core) (call_of core) (may_call core m) holds code
    (ap (λ (b : Bool). not b || can_return code) ends) calls in
    let trip : trip_of core m ≡ trip_along (trip_of core) (to_return 0 code) =
    trip_of-parts core m (lower-parts core m right.ranks)
    ∙ ap (λ (o : Option Tree).
    trip_along (trip_of core) (elim o as (λ _. List WayPart) [ None ↦ [] | Some c ↦ to_return 0 c ])) at in
    λ values store callers locks.
    let p : Point = entry_point method values store in
    let o : Option End = come_back core (call_of core) code p in
    let a : After = at_point p (before code []) 0 callers locks in
    subst (λ (x : Option (Store × Value)). Leads core (trip_of core m) a (IsBack x callers locks))
    (sym (ap (λ (c : List Value → Store → Option (Store × Value)). c values store)
    (call_of-code core right.ranks m method is analysed)))
    (subst (λ (t : Trip). Leads core t a (IsBack (value_back o) callers locks)) (sym trip)
    (λ rest. weaker (IsEnd o [] 0 callers locks) (IsBack (value_back o) callers locks) rest
    (alone core (trip_along (trip_of core) (to_return 0 code)).steps
    ((trip_along (trip_of core) (to_return 0 code)).turns ++ rest) a)
    (λ x. comes-back o callers locks x (back-ends core (call_of core) code p))
    (back 0 p [] callers locks rest)))
