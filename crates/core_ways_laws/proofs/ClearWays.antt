-- Ways to records, by rank, are not stuck at a throw where each method that reached code calls can return.
use Rattle.std.proofs.Common.{◌≡◌, ℕ, zero, suc, ◌+◌, ◌<◌, Bool, true, false, ◌||◌, List, [], ◌∷◌, ◌++◌, Option}
use Rattle.std.proofs.Common.{None, Some, refl, sym, ap, subst, ◌∙◌, arith, drop, nat_eq, nat_lt}
use Rattle.std.proofs.Common.{⊎_elim}
use Rattle.racer_base.specs.declared.ids.MethodId.{MethodId}
use Rattle.racer_base.specs.declared.ids.Place.{Place}
use Rattle.core_code.specs.declared.code.Op.{Op as CoreOp}
use Rattle.core_code.specs.declared.code.Op.TheVariants.{Call}
use Rattle.core_code.specs.Calls.{is_analysed, method_at, rank_of}
use Rattle.core_code.specs.Core.{Core, Method}
use Rattle.core_code.specs.Tree.{Operation, op_at, steps_of}
use Rattle.core_code.specs.CalleeRows.{code_rows}
use Rattle.core_code.specs.Chains.{Calls}
use Rattle.core_code.proofs.Membership.{find_gives}
use Rattle.access_domain.specs.declared.access.Access.{Access}
use Rattle.access_domain.specs.Findings.{Whole}
use Rattle.access_domain.specs.FlowContext.{FlowContext, given_of}
use Rattle.access_domain.specs.OutcomeRecords.{record_at}
use Rattle.access_domain.specs.Summaries.{known_of}
use Rattle.access_domain.proofs.KnownMethods.{FoundAt, found_at, known_is_analysed, record_there}
use Rattle.core_semantics.specs.declared.answer.Holder.{Holder}
use Rattle.core_semantics.specs.declared.object.Value.{Value}
use Rattle.core_semantics.specs.State.{Frame, Store, Todo, Op, before}
use Rattle.core_semantics.specs.Steps.{After, passed_from}
use Rattle.core_ways.specs.declared.part.WayPart.{WayPart}
use Rattle.core_ways.specs.declared.part.WayPart.TheVariants.{Step}
use Rattle.core_ways.specs.Alone.{IsBefore, alone, do_end_before, here, locks_round}
use Rattle.core_ways.specs.Ways.{Trip, code_at, entered as entered_parts, reached, trip_along, trip_of, way_of}
use Rattle.core_ways.specs.Ways.{way_parts}
use Rattle.core_ways.proofs.Alone.{along-both, spot}
use Rattle.core_ways.proofs.AloneMethods.{callees-run, calls-pass, code-there, may_call}
use Rattle.core_ways.proofs.AloneTo.{runs-to}
use Rattle.core_ways.proofs.Callees.{lower-site}
use Rattle.core_ways.proofs.Going.{with-site}
use Rattle.core_ways_laws.specs.ClearLegs.{DoCallsReturn}
use Rattle.core_ways_laws.specs.RunValues.{at_point}
use Rattle.core_ways_laws.specs.Sites.{IsRecordOf, IsThrough, IsTouch}
use Rattle.core_ways_laws.specs.Values.{Point, entry_point}
use Rattle.core_ways_laws.proofs.Clear.{clears-to}
use Rattle.core_ways_laws.proofs.ClearMethods.{call-in-row, callees-clear, calls-further}
use Rattle.core_ways_laws.proofs.ClearSteps.{Clear, LeadsClear, call-clear, clear-on, more-clear}
use Rattle.core_ways_laws.proofs.RecordArrivals.{AreInOrder, inner_ways, record-comes, same-entered}

-- the way to a record, from the entry of its method on with whatever it is given
abbrev pub WayIsClear : Core → MethodId → ℕ → Type 0
WayIsClear core m i =
    (method : Method) (r : Access) → method_at core m ≡ Some method → record_at core m i ≡ Some r →
    (values : List Value) (store : Store) (callers : List Frame) (locks : List Holder) →
    LeadsClear core (way_of core m i).turns (way_of core m i).steps
    (at_point (entry_point method values store) (before method.code []) 0 callers locks)

-- from an operation on, towards a record below it, whatever its frame is
abbrev pub ClearFrom : Core → Option ℕ → CoreOp → Type 0
ClearFrom core below op =
    (place : Place) (store : Store) (vars stack : List Value) (todo : List Todo) (locked : ℕ) (callers : List Frame)
    (locks : List Holder) →
    Clear core (trip_along (trip_of core) (entered_parts (way_parts core) below op))
    (here store vars stack (Op place op ∷ todo) locked callers locks)

clear-here : (core : Core) (below : Option ℕ) (op : CoreOp) → below ≡ None → ClearFrom core below op
clear-here core below op none =
    subst (λ (b : Option ℕ). ClearFrom core b op) (sym none)
    (λ place store vars stack todo locked callers locks rest. tt)

clear-below : (core : Core) (n : MethodId) (j count : ℕ) (inner : Access) → record_at core n j ≡ Some inner →
    WayIsClear core n j → ClearFrom core (Some j) (Call n count)
clear-below core n j count inner has clear = λ place store vars stack todo locked callers locks.
    let way = way_of core n j in
    more-clear core way.turns way.steps (1 + way.steps)
    (here store vars stack (Op place (Call n count) ∷ todo) locked callers locks) (omega arith)
    (λ rest. call-clear core n count (spot store vars stack todo locked callers locks)
    (λ x. alone core way.steps (way.turns ++ rest) x) (method_at core n) refl
    (λ method is.
    let frame : Frame = record { vars = vars; stack = stack; todo = todo; locked = locked } in
    let back : Frame = record { vars = vars; stack = drop count stack; todo = todo; locked = locked } in
    clear method inner is has (passed_from frame count) store (back ∷ callers) locks rest))

-- what a record needs of the record that it comes from
pub record From (core : Core) (m : MethodId) (below : Option ℕ) (op : CoreOp) : Type 0 where
  pub clear : ClearFrom core below op
  pub same : entered_parts (inner_ways core m) below op ≡ entered_parts (way_parts core) below op

from-here : (core : Core) (m : MethodId) (below : Option ℕ) (op : CoreOp) → below ≡ None → From core m below op
from-here core m below op none =
    subst (λ (b : Option ℕ). From core m b op) (sym none) (record { clear = clear-here core None op refl; same = refl })

from-below : (core : Core) (m n : MethodId) (j count : ℕ) (inner : Access) (below : Option ℕ) (op : CoreOp) →
    below ≡ Some j → op ≡ Call n count → record_at core n j ≡ Some inner → WayIsClear core n j →
    rank_of core n < rank_of core m → From core m below op
from-below core m n j count inner below op some call has clear low =
    subst (λ (b : Option ℕ). From core m b op) (sym some)
    (subst (λ (x : CoreOp). From core m (Some j) x) (sym call)
    (record {
      clear = clear-below core n j count inner has clear;
      same = ap (λ (ps : List WayPart). Step ∷ ps) (same-entered core m n j low);
    }))

module _ (core : Core) (facts : AreInOrder core) where
  -- from the operation at the record's site on
  by-site : (m : MethodId) (method : Method) (i : ℕ) (r : Access) (there : method_at core m ≡ Some method)
      (at : record_at core m i ≡ Some r) (o : Operation) → op_at method.code r.site ≡ Some o →
      do_end_before r.site method.code ≡ true → DoCallsReturn core m → From core m r.below o.op →
      (values : List Value) (store : Store) (callers : List Frame) (locks : List Holder) →
      Clear core (way_of core m i) (at_point (entry_point method values store) (before method.code []) 0 callers locks)
  by-site m method i r there at o is ends each from values store callers locks =
      let f : FoundAt core m i r = found_at core m i r at in
      let analysed : is_analysed core m ≡ true = known_is_analysed core m method (Whole f.found) there f.known in
      let code : code_at core m ≡ Some method.code = code-there core m method there analysed in
      let next : List WayPart = entered_parts (way_parts core) r.below o.op in
      let parts : way_parts core m i ≡ reached 0 r.site method.code ++ next =
      with-site core m i method.code r o code at is
      ∙ ap (λ (ps : List WayPart). reached 0 r.site method.code ++ ps) from.same in
      let calls = calls-pass core facts.right m method there code in
      let p : Point = entry_point method values store in
      let a : After = at_point p (before method.code []) 0 callers locks in
      let P : After → Type 0 = IsBefore o (locks_round r.site method.code) 0 callers locks in
      subst (λ (ps : List WayPart). Clear core (trip_along (trip_of core) ps) a) (sym parts)
      (subst (λ (t : Trip). Clear core t a) (sym (along-both (trip_of core) (reached 0 r.site method.code) next))
      (clear-on core P
      (trip_along (trip_of core) (reached 0 r.site method.code)).turns (trip_along (trip_of core) next).turns
      (trip_along (trip_of core) (reached 0 r.site method.code)).steps (trip_along (trip_of core) next).steps a
      (runs-to core (trip_of core) (may_call core m) (callees-run core facts.right m) r.site o method.code calls is ends
      0 p.store p.vars p.stack [] callers locks)
      (clears-to core (trip_of core) (may_call core m) (callees-run core facts.right m) r.site method.code ends calls
      (callees-clear core facts.right m method there calls each) 0 p.store p.vars p.stack [] callers locks)
      (λ x b. subst (λ (y : After). Clear core (trip_along (trip_of core) next) y) (sym b.is)
      (from.clear o.place b.store b.vars b.stack b.todo (locks_round r.site method.code + 0) callers
      (b.monitors ++ locks)))))

  pub way-clear : (k : ℕ) (m : MethodId) (i : ℕ) → rank_of core m < k → DoCallsReturn core m → WayIsClear core m i
  way-clear zero m i low each method r there at = absurd (omega arith)
  way-clear (suc k) m i low each method r there at =
      let f : FoundAt core m i r = found_at core m i r at in
      let analysed : is_analysed core m ≡ true = known_is_analysed core m method (Whole f.found) there f.known in
      let code : code_at core m ≡ Some method.code = code-there core m method there analysed in
      let g : FlowContext = given_of core (known_of core) method.main in
      let c : IsRecordOf g method.code false r = record-comes core facts.order m method i r there at in
      let flag : Bool = false || nat_lt 0 (locks_round r.site method.code) in
      by-site m method i r there at c.operation c.at c.ends each
      (⊎_elim
      (λ (own : IsTouch c.operation.op flag r). from-here core m r.below c.operation.op own.below)
      (λ (of : IsThrough g c.operation.op flag r).
      let lower : rank_of core of.callee < rank_of core m =
      lower-site core m method.code r.site c.operation of.callee of.count facts.right.ranks code c.at of.calls in
      let row : Calls (code_rows core) m of.callee =
      call-in-row core m of.callee of.count method c.operation there
      (find_gives (λ (o : Operation). nat_eq o.site.0 r.site.0) (steps_of method.code) c.operation c.at).0 of.calls in
      from-below core m of.callee of.index of.count of.inner r.below c.operation.op of.below of.calls
      (record_there core of.callee of.index of.inner of.found of.known of.has)
      (way-clear k of.callee of.index (omega arith) (calls-further core m of.callee row each)) lower)
      c.from)
