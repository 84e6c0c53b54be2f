-- Going towards a record, by rank, run alone: the thread comes to where the record's way leads.
use Rattle.std.proofs.Common.{◌≡◌, ℕ, zero, suc, ◌+◌, ◌<◌, Bool, true, false, cond, ◌||◌, List, [], ◌∷◌, ◌++◌}
use Rattle.std.proofs.Common.{Option, None, Some, nat_lt, option_map, slice_index_or, drop}
use Rattle.std.proofs.Common.{⊎_elim, refl, sym, ap, subst, ◌∙◌, arith}
use Rattle.std.proofs.lemmas.Bool.{lt-ltb, ltb-true, or_right, and_parts}
use Rattle.std.specs.List.{list_all}
use Rattle.std.specs.Prelude.{Result, Ok, Err}
use Rattle.std.proofs.Math.Bool.{or-false}
use Rattle.racer_base.specs.declared.ids.FieldId.{FieldId}
use Rattle.racer_base.specs.declared.ids.MethodId.{MethodId}
use Rattle.racer_base.specs.declared.ids.SiteId.{SiteId}
use Rattle.racer_base.specs.declared.ids.Touch.{Touch}
use Rattle.access_paths.specs.Paths.{last_of}
use Rattle.core_code.specs.declared.code.Op.{Op as CoreOp}
use Rattle.core_code.specs.declared.code.Op.TheVariants.{Call}
use Rattle.core_code.specs.Calls.{called_by, is_analysed, known_below, method_at, rank_of}
use Rattle.core_code.specs.CallFacts.{has_ranks}
use Rattle.core_code.specs.Core.{Core, Method}
use Rattle.core_code.specs.Facts.{are_sites_in_order, is_in_order}
use Rattle.core_code.specs.Tree.{Tree, Operation, op_at}
use Rattle.core_code.specs.Tree.{steps_of}
use Rattle.core_code.specs.Tree as tree
use Rattle.core_code.proofs.ByRank.{known_below-lower}
use Rattle.access_domain.specs.declared.access.Access.{Access}
use Rattle.access_domain.specs.Findings.{Whole}
use Rattle.access_domain.specs.FlowContext.{FlowContext, given_of}
use Rattle.access_domain.specs.Origins.{field_of, touch_of}
use Rattle.access_domain.specs.Summaries.{known_of}
use Rattle.access_domain.specs.OutcomeRecords.{record_at}
use Rattle.access_domain.proofs.KnownMethods.{FoundAt, found_at, known_is_analysed, method_known, record_there}
use Rattle.access_domain.proofs.Members.{in_at}
use Rattle.access_domain.proofs.Tests.{passes_at}
use Rattle.core_semantics.specs.declared.answer.Holder.{Holder}
use Rattle.core_semantics.specs.declared.answer.Turn.{Turn}
use Rattle.core_semantics.specs.declared.answer.Why.{Why}
use Rattle.core_semantics.specs.declared.answer.Why.TheVariants.{UnreadCall as UnreadWhy}
use Rattle.core_semantics.specs.declared.object.Object.{Object}
use Rattle.core_semantics.specs.declared.object.Value.{Value}
use Rattle.core_semantics.specs.declared.object.Value.TheVariants.{Null}
use Rattle.core_semantics.specs.State.{Frame, Store, Todo, Op, before}
use Rattle.core_semantics.specs.Steps.{After, Next, Spot, Sticks, base_of, called_method, entering, monitor_of}
use Rattle.core_semantics.specs.Steps.{on_base}
use Rattle.core_semantics.specs.Steps.{on_object, passed_from}
use Rattle.core_ways.specs.declared.part.WayPart.{WayPart}
use Rattle.core_ways.specs.declared.part.WayPart.TheVariants.{Step}
use Rattle.core_ways.specs.Alone.{Alone, ComesTo, alone, do_end_before, locks_round, onward}
use Rattle.core_ways.specs.Ways.{code_at, entered, has_site, reached}
use Rattle.core_ways.specs.Ways.{trip_along, trip_of, way_given, way_of, way_parts}
use Rattle.core_ways.proofs.Alone.{Leads, one-more}
use Rattle.core_ways.proofs.AloneMethods.{AreRight, calls-pass, code-there, may_call}
use Rattle.core_ways.proofs.Callees.{do_pass, lower-calls, lower-site, pass-both}
use Rattle.core_ways.proofs.Going.{with-site}
use Rattle.core_ways_laws.specs.Values.{Calls, Point, call_of, entry_point, evaluate, on_ok, point_popped, received}
use Rattle.core_ways_laws.specs.Values.{top_value}
use Rattle.core_ways_laws.specs.Values.{values_passed}
use Rattle.core_ways_laws.specs.Arrivals.{Arrival, Arrivals, behind_first, one_lock_more, to, to_record, arrival_at}
use Rattle.core_ways_laws.specs.Arrivals.{arrival_given, arrival_of}
use Rattle.core_ways_laws.specs.RunValues.{Arrives, IsOfRecord, IsArrival, RecordGoes, at_point}
use Rattle.core_ways_laws.specs.Sites.{IsRecordOf, IsThrough, IsTouch}
use Rattle.core_ways_laws.proofs.CalledValues.{method-goes}
use Rattle.core_ways_laws.proofs.PassedValues.{spot_at}
use Rattle.core_ways_laws.proofs.ReachedValues.{OnArrival, goes-to, to-has}
use Rattle.core_ways_laws.proofs.WaySites.{comes-from}

-- ---- records

-- no record is known of no method
unknown : (core : Core) (m : MethodId) (i : ℕ) (r : Access) → method_at core m ≡ None → record_at core m i ≡ Some r →
    ⊥
unknown core m i r none at =
    let f : FoundAt core m i r = found_at core m i r at in
    let method = method_known core m (Whole f.found) f.known in
    let wrong : None ≡ Some method.0 = sym none ∙ method.1 in
    absurd cc

-- where a record of a method comes from
pub record-comes : (core : Core) → are_sites_in_order core ≡ true → (m : MethodId) (method : Method) (i : ℕ)
    (r : Access) → method_at core m ≡ Some method → record_at core m i ≡ Some r →
    IsRecordOf (given_of core (known_of core) method.main) method.code false r
record-comes core order m method i r there at =
    let f : FoundAt core m i r = found_at core m i r at in
    comes-from core m method f.found r there (passes_at is_in_order core.methods m.0 method order there) f.known
    (in_at f.found.records i r f.has)

-- ---- what comes next, from what comes next in methods of smaller ranks

module _ (core : Core) (calls : Calls) (f g : Arrivals) (site : SiteId) (below : Option ℕ) (test : MethodId → Bool)
    (same : (m : MethodId) → test m ≡ true → f m ≡ g m) where
  op-same : (o : Option ℕ) (op : CoreOp) → list_all test (called_by op ++ []) ≡ true →
      ◌≡◌ {A = Point → Option Arrival} (λ at. arrival_at core f o op at) (λ at. arrival_at core g o op at)
  op-same None op all = refl
  op-same (Some j) (Call m n) all = (λ i at. elim (method_at core m) as (λ _. Option Arrival) [
    | None ↦ None
    | Some method ↦
        received method (values_passed at n)
        (same m (and_parts (test m) true all).0 i j (values_passed at n) at.store)
  ])
  op-same (Some j) op all = refl

  to-same : (code : Tree) → do_pass test (steps_of code) ≡ true →
      ◌≡◌ {A = Point → Option Arrival} (λ at. to core calls f site below code at)
      (λ at. to core calls g site below code at)
  to-same (tree.Op s place op) all = op-same below op all
  to-same tree.Skip all = refl
  to-same (tree.Seq first rest) all =
      let both = pass-both test (steps_of first) (steps_of rest) all in
      let early = to-same first (and_parts (do_pass test (steps_of first)) (do_pass test (steps_of rest)) both).0 in
      let late = to-same rest (and_parts (do_pass test (steps_of first)) (do_pass test (steps_of rest)) both).1 in
      (λ i at. cond (has_site first site) (early i at) (behind_first (evaluate core calls first at) (late i)))
  to-same (tree.Choice left right) all =
      let both = pass-both test (steps_of left) (steps_of right) all in
      let l = to-same left (and_parts (do_pass test (steps_of left)) (do_pass test (steps_of right)) both).0 in
      let r = to-same right (and_parts (do_pass test (steps_of left)) (do_pass test (steps_of right)) both).1 in
      (λ i at. cond (has_site left site) (l i at) (r i at))
  to-same (tree.Loop body) all = to-same body all
  to-same (tree.Sync lock body) all =
      let inside = to-same body all in
      (λ i at. on_ok (monitor_of lock.kind (top_value at)) (option_map one_lock_more (inside i (point_popped at 1))))

abbrev pub inner_arrivals : Core → MethodId → Arrivals
inner_arrivals core m = known_below (λ i values store. None) (arrival_given core) core (rank_of core m)

pub arrival-is : (core : Core) (m : MethodId) (method : Method) (i : ℕ) (r : Access) →
    method_at core m ≡ Some method → record_at core m i ≡ Some r →
    ◌≡◌ {A = List Value → Store → Option Arrival} (arrival_of core m i)
    (λ values store. to core (call_of core) (inner_arrivals core m) r.site r.below method.code
    (entry_point method values store))
arrival-is core m method i r there at =
    (λ k values store. elim (there k) as (λ _. Option Arrival) [
      | None ↦ None
      | Some x ↦ to_record core (inner_arrivals core m) (at k) x values store
    ])

-- what comes next on the way to a record is what comes next there on the way to the record's site
pub arrival_of-code : (core : Core) → has_ranks core ≡ true → (m : MethodId) (method : Method) (i : ℕ) (r : Access) →
    method_at core m ≡ Some method → is_analysed core m ≡ true → record_at core m i ≡ Some r →
    ◌≡◌ {A = List Value → Store → Option Arrival} (arrival_of core m i)
    (λ values store. to core (call_of core) (arrival_of core) r.site r.below method.code
    (entry_point method values store))
arrival_of-code core ranks m method i r there analysed at =
    arrival-is core m method i r there at
    ∙ (λ k values store.
    to-same core (call_of core) (inner_arrivals core m) (arrival_of core) r.site r.below
    (λ n. nat_lt (rank_of core n) (rank_of core m))
    (λ n low. known_below-lower (λ i values store. None) (arrival_given core) core (rank_of core m) n
    (ltb-true (rank_of core n) (rank_of core m) low)) method.code
    (lower-calls core m method.code ranks (code-there core m method there analysed)) k
    (entry_point method values store))

-- ---- the parts of a way

abbrev pub inner_ways : Core → MethodId → MethodId → ℕ → List WayPart
inner_ways core m = known_below (λ i. []) (way_given core) core (rank_of core m)

-- ---- entering a callee towards its record

module _ (core : Core) (n : MethodId) (j : ℕ) (inner : Access) (has : record_at core n j ≡ Some inner)
    (goes : RecordGoes core n j) where
  on-receiver : (r : Result Object Why) (arrival : Option Arrival) (locks : List Holder) (rest : List Turn)
      (f : After → Alone) (next : Next After) → ComesTo (IsArrival arrival locks) rest (onward f next) →
      ComesTo (IsArrival (on_ok r arrival) locks) rest (onward f (on_base r (λ o. next)))
  on-receiver (Ok o) arrival locks rest f next comes = comes
  on-receiver (Err why) arrival locks rest f next comes = tt

  enters : (count : ℕ) (at : Point) (todo : List Todo) (locked : ℕ) (callers : List Frame) (locks : List Holder)
      (rest : List Turn) (o : Option Method) → method_at core n ≡ o →
      let way = way_of core n j in
      ComesTo (IsArrival (elim o as (λ _. Option Arrival) [
        | None ↦ None
        | Some method ↦
            received method (values_passed at count) (arrival_of core n j (values_passed at count) at.store)
      ]) locks) rest
      (onward (λ a. alone core way.steps (way.turns ++ rest) a)
      (elim o as (λ _. Next After) [
        | None ↦ Sticks UnreadWhy
        | Some method ↦ called_method (spot_at at todo locked callers locks) method count
      ]))
  enters count at todo locked callers locks rest None is = tt
  enters count at todo locked callers locks rest (Some method) is =
      let way = way_of core n j in
      let s : Spot = spot_at at todo locked callers locks in
      let back : Frame = record { vars = at.vars; stack = drop count at.stack; todo = todo; locked = locked } in
      let arrival : Option Arrival = arrival_of core n j (values_passed at count) at.store in
      let f : After → Alone = λ a. alone core way.steps (way.turns ++ rest) a in
      let comes = goes method inner is has (values_passed at count) at.store (back ∷ callers) locks rest in
      elim method.is_static as (λ b. ComesTo (IsArrival
      (cond b arrival (on_ok (base_of (slice_index_or (values_passed at count) 0 Null)) arrival)) locks) rest
      (onward f (cond b (entering s method count)
      (on_object (slice_index_or (passed_from s.frame count) 0 Null) (λ o. entering s method count))))) [
        | true ↦ comes
        | false ↦
            on-receiver (base_of (slice_index_or (values_passed at count) 0 Null)) arrival locks rest f
            (entering s method count) comes
      ]

  arrives-through : (count : ℕ) →
      Arrives core (trip_of core) (way_parts core) (Some j) (Call n count)
      (arrival_at core (arrival_of core) (Some j) (Call n count))
  arrives-through count place locked at todo callers locks =
      let way = way_of core n j in
      one-more core way.turns way.steps (1 + way.steps)
      (at_point at (Op place (Call n count) ∷ todo) locked callers locks)
      (IsArrival (arrival_at core (arrival_of core) (Some j) (Call n count) at) locks) (omega arith)
      (λ rest. enters count at todo locked callers locks rest (method_at core n) refl)

arrives-here : (core : Core) (op : CoreOp) →
    Arrives core (trip_of core) (way_parts core) None op (arrival_at core (arrival_of core) None op)
arrives-here core op place locked at todo callers locks = λ rest. (
  refl,
  record { place = place; todo = todo; locked = locked; callers = callers; monitors = []; count = refl; is = refl },
)

-- ---- ways to records

-- what the program keeps, with its sites in order
pub record AreInOrder (core : Core) : Type 0 where
  pub right : AreRight core
  pub order : are_sites_in_order core ≡ true

abbrev Reach : Core → Option ℕ → CoreOp → Type 0
Reach core below op = Arrives core (trip_of core) (way_parts core) below op (arrival_at core (arrival_of core) below op)

pub same-entered : (core : Core) (m n : MethodId) (j : ℕ) → rank_of core n < rank_of core m →
    inner_ways core m n j ≡ way_parts core n j
same-entered core m n j low =
    ap (λ (ways : ℕ → List WayPart). ways j)
    (known_below-lower (λ i. []) (way_given core) core (rank_of core m) n low)

-- what a record needs of the record that it comes from
pub record Reaches (core : Core) (m : MethodId) (below : Option ℕ) (op : CoreOp) : Type 0 where
  pub arrives : Arrives core (trip_of core) (way_parts core) below op (arrival_at core (arrival_of core) below op)
  pub same : entered (inner_ways core m) below op ≡ entered (way_parts core) below op

reaches-here : (core : Core) (m : MethodId) (below : Option ℕ) (op : CoreOp) → below ≡ None → Reaches core m below op
reaches-here core m below op none =
    subst (λ (b : Option ℕ). Reaches core m b op) (sym none)
    (record { arrives = arrives-here core op; same = refl })

reaches-through : (core : Core) (m n : MethodId) (j count : ℕ) (inner : Access) (below : Option ℕ) (op : CoreOp) →
    below ≡ Some j → op ≡ Call n count → record_at core n j ≡ Some inner → RecordGoes core n j →
    rank_of core n < rank_of core m → Reaches core m below op
reaches-through core m n j count inner below op some call has goes low =
    subst (λ (b : Option ℕ). Reaches core m b op) (sym some)
    (subst (λ (x : CoreOp). Reaches core m (Some j) x) (sym call)
    (record {
      arrives = arrives-through core n j inner has goes count;
      same = ap (λ (ps : List WayPart). Step ∷ ps) (same-entered core m n j low);
    }))

module _ (core : Core) (facts : AreInOrder core) where
  -- from the operation at the record's site on
  by-site : (m : MethodId) (method : Method) (i : ℕ) (r : Access) (there : method_at core m ≡ Some method)
      (at : record_at core m i ≡ Some r) (o : Operation) → op_at method.code r.site ≡ Some o →
      do_end_before r.site method.code ≡ true → Reaches core m r.below o.op →
      (values : List Value) (store : Store) (callers : List Frame) (locks : List Holder) →
      Leads core (way_of core m i) (at_point (entry_point method values store) (before method.code []) 0 callers locks)
      (IsArrival (arrival_of core m i values store) locks)
  by-site m method i r there at o is ends reaches values store callers locks =
      let f : FoundAt core m i r = found_at core m i r at in
      let analysed : is_analysed core m ≡ true = known_is_analysed core m method (Whole f.found) there f.known in
      let code : code_at core m ≡ Some method.code = code-there core m method there analysed in
      let parts : way_parts core m i ≡ reached 0 r.site method.code ++ entered (way_parts core) r.below o.op =
      with-site core m i method.code r o code at is
      ∙ ap (λ (ps : List WayPart). reached 0 r.site method.code ++ ps) reaches.same in
      let p : Point = entry_point method values store in
      let a : After = at_point p (before method.code []) 0 callers locks in
      subst (λ (arrival : Option Arrival). Leads core (way_of core m i) a (IsArrival arrival locks))
      (sym (ap (λ (t : List Value → Store → Option Arrival). t values store)
      (arrival_of-code core facts.right.ranks m method i r there analysed at)))
      (subst (λ (ps : List WayPart). Leads core (trip_along (trip_of core) ps) a
      (IsArrival (to core (call_of core) (arrival_of core) r.site r.below method.code p) locks)) (sym parts)
      (goes-to core (trip_of core) (call_of core) (arrival_of core) (way_parts core) r.site r.below (may_call core m)
      (λ n may. method-goes core facts.right (suc (rank_of core n)) n (omega arith)
      (and_parts (nat_lt (rank_of core n) (rank_of core m)) (is_analysed core n) may).1) o reaches.arrives method.code
      (calls-pass core facts.right m method there code) is ends 0 p [] callers locks))

  pub record-goes : (k : ℕ) (m : MethodId) (i : ℕ) → rank_of core m < k → RecordGoes core m i
  record-goes zero m i low method r there at = absurd (omega arith)
  record-goes (suc k) m i low method r there at =
      let f : FoundAt core m i r = found_at core m i r at in
      let analysed : is_analysed core m ≡ true = known_is_analysed core m method (Whole f.found) there f.known in
      let code : code_at core m ≡ Some method.code = code-there core m method there analysed in
      let g : FlowContext = given_of core (known_of core) method.main in
      let c : IsRecordOf g method.code false r = record-comes core facts.order m method i r there at in
      let flag : Bool = false || nat_lt 0 (locks_round r.site method.code) in
      by-site m method i r there at c.operation c.at c.ends
      (⊎_elim
      (λ (own : IsTouch c.operation.op flag r). reaches-here core m r.below c.operation.op own.below)
      (λ (of : IsThrough g c.operation.op flag r).
      let lower : rank_of core of.callee < rank_of core m =
      lower-site core m method.code r.site c.operation of.callee of.count facts.right.ranks code c.at of.calls in
      reaches-through core m of.callee of.index of.count of.inner r.below c.operation.op of.below of.calls
      (record_there core of.callee of.index of.inner of.found of.known of.has)
      (record-goes k of.callee of.index (omega arith)) lower)
      c.from)

-- ---- what comes next is the record's access, within as many locks as its flag says

-- a flag that counts these locks, and an operation that touches this
abbrev IsSo : Bool → Touch → Option FieldId → ℕ → Arrival → Type 0
IsSo flag kind field n arrival =
    (nat_lt 0 arrival.locks ≡ (flag || nat_lt 0 n)) × (touch_of arrival.op ≡ Some kind) × (field_of arrival.op ≡ field)

one-deeper : (flag : Bool) (kind : Touch) (field : Option FieldId) (n : ℕ) (arrival : Arrival) →
    IsSo flag kind field n arrival →
    IsSo flag kind field (suc n) (one_lock_more arrival)
one-deeper flag kind field n arrival so = (
  lt-ltb 0 (suc arrival.locks) (omega arith)
      ∙ sym (ap (λ (b : Bool). flag || b) (lt-ltb 0 (suc n) (omega arith)) ∙ or_right flag true refl),
  so.1,
  so.2,
)

-- what is received has it
received-so : (P : Arrival → Type 0) (method : Method) (values : List Value) (o : Option Arrival) → OnArrival P o →
    OnArrival P (received method values o)
received-so P method values o has =
    elim method.is_static as (λ b. OnArrival P (cond b o (on_ok (base_of (slice_index_or values 0 Null)) o))) [
      | true ↦ has
      | false ↦
          elim (base_of (slice_index_or values 0 Null)) as (λ r. OnArrival P (on_ok r o)) [ Ok x ↦ has | Err e ↦ tt ]
    ]

entered-so : (core : Core) (P : Arrival → Type 0) (n : MethodId) (j : ℕ) (values : List Value) (store : Store)
    (o : Option Method) → OnArrival P (arrival_of core n j values store) →
    OnArrival P (elim o as (λ _. Option Arrival) [
      | None ↦ None
      | Some method ↦ received method values (arrival_of core n j values store)
    ])
entered-so core P n j values store None has = tt
entered-so core P n j values store (Some method) has =
    received-so P method values (arrival_of core n j values store) has

map-on : (P Q : Arrival → Type 0) (o : Option Arrival) → ((arrival : Arrival) → P arrival → Q arrival) →
    OnArrival P o → OnArrival Q o
map-on P Q None f has = has
map-on P Q (Some arrival) f has = f arrival has

-- from what the operation at the site leads to
abbrev Leading : Core → Bool → Touch → Option FieldId → Option ℕ → CoreOp → Type 0
Leading core flag kind field below op =
    (at : Point) → OnArrival (IsSo flag kind field 0) (arrival_at core (arrival_of core) below op at)

leads-here : (core : Core) (kind : Touch) (field : Option FieldId) (below : Option ℕ) (op : CoreOp) → below ≡ None →
    touch_of op ≡ Some kind → field_of op ≡ field → Leading core false kind field below op
leads-here core kind field below op none touches touched =
    subst (λ (b : Option ℕ). Leading core false kind field b op) (sym none) (λ at. (refl, touches, touched))

leads-through : (core : Core) (n : MethodId) (j count : ℕ) (inner : Access) (kind : Touch) (field : Option FieldId)
    (below : Option ℕ) (op : CoreOp) → below ≡ Some j → op ≡ Call n count → kind ≡ inner.kind →
    field ≡ last_of inner.path.fields →
    ((values : List Value) (store : Store) → OnArrival (IsOfRecord inner) (arrival_of core n j values store)) →
    Leading core inner.locked kind field below op
leads-through core n j count inner kind field below op some call same same_field has =
    subst (λ (b : Option ℕ). Leading core inner.locked kind field b op) (sym some)
    (subst (λ (x : CoreOp). Leading core inner.locked kind field (Some j) x) (sym call)
    (λ at. entered-so core (IsSo inner.locked kind field 0) n j (values_passed at count) at.store (method_at core n)
    (map-on (IsOfRecord inner) (IsSo inner.locked kind field 0) (arrival_of core n j (values_passed at count) at.store)
    (λ arrival (of : IsOfRecord inner arrival).
    (of.held ∙ sym (or-false inner.locked), of.touches ∙ ap Some (sym same), of.field ∙ sym same_field))
    (has (values_passed at count) at.store))))

module _ (core : Core) (facts : AreInOrder core) where
  so-at : (m : MethodId) (method : Method) (i : ℕ) (r : Access) (there : method_at core m ≡ Some method)
      (at : record_at core m i ≡ Some r) (o : Operation) (flag : Bool) → op_at method.code r.site ≡ Some o →
      Leading core flag r.kind (last_of r.path.fields) r.below o.op →
      r.locked ≡ (flag || nat_lt 0 (locks_round r.site method.code)) →
      (values : List Value) (store : Store) → OnArrival (IsOfRecord r) (arrival_of core m i values store)
  so-at m method i r there at o flag is leading held values store =
      let f : FoundAt core m i r = found_at core m i r at in
      let analysed : is_analysed core m ≡ true = known_is_analysed core m method (Whole f.found) there f.known in
      let field : Option FieldId = last_of r.path.fields in
      let n : ℕ = locks_round r.site method.code in
      subst (λ (arrival : Option Arrival). OnArrival (IsOfRecord r) arrival)
      (sym (ap (λ (t : List Value → Store → Option Arrival). t values store)
      (arrival_of-code core facts.right.ranks m method i r there analysed at)))
      (map-on (IsSo flag r.kind field n) (IsOfRecord r)
      (to core (call_of core) (arrival_of core) r.site r.below method.code (entry_point method values store))
      (λ arrival so. record { held = so.0 ∙ sym held; touches = so.1; field = so.2 })
      (to-has core (call_of core) (arrival_of core) r.site r.below o (IsSo flag r.kind field)
      (one-deeper flag r.kind field)
      leading method.code is (entry_point method values store)))

  of-callee : (m : MethodId) (i : ℕ) (r : Access) → record_at core m i ≡ Some r →
      ((method : Method) → method_at core m ≡ Some method → (values : List Value) (store : Store) →
      OnArrival (IsOfRecord r) (arrival_of core m i values store)) →
      (o : Option Method) → method_at core m ≡ o → (values : List Value) (store : Store) →
      OnArrival (IsOfRecord r) (arrival_of core m i values store)
  of-callee m i r at so None there = absurd (unknown core m i r there at)
  of-callee m i r at so (Some method) there = so method there

  pub record-so : (k : ℕ) (m : MethodId) (method : Method) (i : ℕ) (r : Access) → rank_of core m < k →
      method_at core m ≡ Some method → record_at core m i ≡ Some r → (values : List Value) (store : Store) →
      OnArrival (IsOfRecord r) (arrival_of core m i values store)
  record-so zero m method i r low there at = absurd (omega arith)
  record-so (suc k) m method i r low there at =
      let f : FoundAt core m i r = found_at core m i r at in
      let analysed : is_analysed core m ≡ true = known_is_analysed core m method (Whole f.found) there f.known in
      let code : code_at core m ≡ Some method.code = code-there core m method there analysed in
      let g : FlowContext = given_of core (known_of core) method.main in
      let c : IsRecordOf g method.code false r = record-comes core facts.order m method i r there at in
      let n : ℕ = locks_round r.site method.code in
      ⊎_elim
      (λ (own : IsTouch c.operation.op (false || nat_lt 0 n) r).
      so-at m method i r there at c.operation false c.at
      (leads-here core r.kind (last_of r.path.fields) r.below c.operation.op own.below own.touches own.field) own.held)
      (λ (of : IsThrough g c.operation.op (false || nat_lt 0 n) r).
      let lower : rank_of core of.callee < rank_of core m =
      lower-site core m method.code r.site c.operation of.callee of.count facts.right.ranks code c.at of.calls in
      let has : record_at core of.callee of.index ≡ Some of.inner =
      record_there core of.callee of.index of.inner of.found of.known of.has in
      so-at m method i r there at c.operation of.inner.locked c.at
      (leads-through core of.callee of.index of.count of.inner r.kind (last_of r.path.fields) r.below c.operation.op
      of.below of.calls of.kind of.field
      (of-callee of.callee of.index of.inner has (λ inside is. record-so k of.callee inside of.index of.inner
      (omega arith) is has) (method_at core of.callee) refl)) of.held)
      c.from
