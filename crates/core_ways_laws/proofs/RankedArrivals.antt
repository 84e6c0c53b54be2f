-- Methods by rank: each way to a record of a method leads to the record's access.
use Rattle.std.proofs.Common.{◌≡◌, ℕ, zero, suc, ◌<◌, true, false, List, [], Option, None, Some}
use Rattle.std.proofs.Common.{slice_get, refl, sym, ap, subst, arith}
use Rattle.racer_base.specs.declared.ids.MethodId.{MethodId}
use Rattle.access_paths.specs.declared.path.Path.{Path}
use Rattle.core_code.specs.declared.code.Op.{Op as CoreOp}
use Rattle.core_code.specs.declared.code.Op.TheVariants.{Call}
use Rattle.core_code.specs.declared.program.Program.{Program}
use Rattle.core_code.specs.Calls.{is_analysed, known_below, method_at, rank_of}
use Rattle.core_code.specs.CallFacts.{is_right_call}
use Rattle.core_code.specs.Core.{Core, Method}
use Rattle.core_code.specs.Program.{core}
use Rattle.core_code.proofs.ByRank.{known_below-lower}
use Rattle.core_code.proofs.Membership.{In}
use Rattle.access_domain.specs.declared.access.Access.{Access}
use Rattle.access_domain.specs.Findings.{Findings, Known, Whole, Table}
use Rattle.access_domain.specs.Operations.{Effects}
use Rattle.access_domain.specs.Records.{same_key}
use Rattle.access_domain.specs.Summaries.{effects_given, known_of, known_of_callees, start_of}
use Rattle.access_domain.proofs.KnownMethods.{IsWhole, callee_known, is_whole, record_there}
use Rattle.access_domain.proofs.Members.{firsts_give, in_at}
use Rattle.core_semantics.specs.declared.object.Value.{Value}
use Rattle.core_semantics.specs.State.{Store}
use Rattle.core_ways_laws.specs.Arrivals.{Arrival, Arrivals, arrival_given, arrival_of}
use Rattle.core_ways_laws.specs.Values.{call_of, entry_point}
use Rattle.core_ways_laws.specs.Kept.{AreMet, IsEntered, IsMet}
use Rattle.core_ways_laws.specs.Names.{Naming}
use Rattle.core_ways_laws.specs.Places.{AreHushed, IsFrame, IsStore}
use Rattle.core_ways_laws.specs.Quiet.{Quietness}
use Rattle.core_ways_laws.proofs.Hushing.{hush-different}
use Rattle.core_ways_laws.proofs.ProgramFacts.{IsRight, IsRightCall, is_right}
use Rattle.core_ways_laws.proofs.ProgramFacts.{lower_call}
use Rattle.core_ways_laws.proofs.ProgramFacts.{right_call}
use Rattle.core_ways_laws.proofs.Ranked.{good-callees, method-there}
use Rattle.core_ways_laws.proofs.RecordArrivals.{arrival-is, inner_arrivals}
use Rattle.core_ways_laws.proofs.Towards.{AreLed, IsLed, towards-met}

-- ---- ways to records, from those of methods of smaller ranks

meeting-op : (core : Core) (quiet : Quietness core) (table : Table) (arrivals : Arrivals) (op : CoreOp) →
    ((callee : MethodId) (count : ℕ) → op ≡ Call callee count →
    AreMet core quiet callee (table callee) (arrivals callee)) →
    IsLed core quiet table arrivals op
meeting-op core quiet table arrivals (Call callee count) each = each callee count refl
meeting-op core quiet table arrivals op each = tt

-- what is needed of the callees of a method
callees-met : (p : Program) (quiet : Quietness (core p)) (m : MethodId) (method : Method) →
    method_at (core p) m ≡ Some method → is_analysed (core p) m ≡ true →
    ((callee : MethodId) → rank_of (core p) callee < rank_of (core p) m → is_analysed (core p) callee ≡ true →
    AreMet (core p) quiet callee (known_of (core p) callee) (arrival_of (core p) callee)) →
    AreLed (core p) quiet (known_of_callees (core p) m) (inner_arrivals (core p) m) method.code
callees-met p quiet m method there analysed lower o stands =
    let right : IsRight (core p) method = is_right p m method there analysed in
    meeting-op (core p) quiet (known_of_callees (core p) m) (inner_arrivals (core p) m) o.op
    (λ callee count is.
    let low : rank_of (core p) callee < rank_of (core p) m =
    lower_call p m method there analysed o stands callee count is in
    let call : IsRightCall (core p) callee count = right_call (core p) callee count
    (subst (λ (op : CoreOp). is_right_call (core p) op ≡ true) is (right.calls o stands)) in
    let met : AreMet (core p) quiet callee (known_of (core p) callee) (arrival_of (core p) callee) =
    lower callee low call.analysed in
    let same : inner_arrivals (core p) m callee ≡ arrival_of (core p) callee =
    known_below-lower (λ i values store. None) (arrival_given (core p)) (core p) (rank_of (core p) m) callee low in
    subst (λ (k : Option Known). AreMet (core p) quiet callee k (inner_arrivals (core p) m callee))
    (sym (callee_known (core p) m callee low))
    (subst (λ (arrivals : ℕ → List Value → Store → Option Arrival).
    AreMet (core p) quiet callee (known_of (core p) callee) arrivals) (sym same) met))

-- the way to a record of a method
method-met : (p : Program) (quiet : Quietness (core p)) (m : MethodId) (method : Method) →
    method_at (core p) m ≡ Some method → is_analysed (core p) m ≡ true →
    AreLed (core p) quiet (known_of_callees (core p) m) (inner_arrivals (core p) m) method.code →
    (found : Findings) → known_of (core p) m ≡ Some (Whole found) → (n : Naming) (values : List Value)
    (store : Store) → IsEntered (core p) quiet n method values store → IsStore (core p) quiet store →
    AreHushed (core p) quiet n found.wobbly → (i : ℕ) (r : Access) → slice_get found.records i ≡ Some r →
    IsMet (core p) quiet n r (arrival_of (core p) m i values store)
method-met p quiet m method there analysed meets found known n values store entered stored hush i r has =
    let right : IsRight (core p) method = is_right p m method there analysed in
    let table : Table = known_of_callees (core p) m in
    let e : Effects = effects_given (core p) table method in
    let whole : IsWhole (core p) m method found = is_whole (core p) m method found there known in
    let hushed : AreHushed (core p) quiet n e.wobbly = hush-different (core p) quiet n e.wobbly
    (subst (λ (ws : List Path). AreHushed (core p) quiet n ws) (sym whole.wobbly) hush) in
    let among : In e.records r = firsts_give same_key e.records r
    (subst (λ (rs : List Access). In rs r) (sym whole.records) (in_at found.records i r has)) in
    let frame : IsFrame (core p) quiet n method [] (start_of method) (entry_point method values store) =
    record { vars = entered; stack = tt } in
    subst (λ (o : Option Arrival). IsMet (core p) quiet n r o)
    (sym (ap (λ (f : List Value → Store → Option Arrival). f values store)
    (arrival-is (core p) m method i r there (record_there (core p) m i r found known has))))
    (towards-met (core p) quiet n method table method.main (call_of (core p)) (inner_arrivals (core p) m) method.code
    right.calls (good-callees p quiet m method there analysed) meets 0 right.sites false [] right.kinds
    (start_of method) (entry_point method values store) r right.kinded hushed whole.small frame stored among)

met-below : (p : Program) (quiet : Quietness (core p)) (k : ℕ) (m : MethodId) → rank_of (core p) m < k →
    is_analysed (core p) m ≡ true → AreMet (core p) quiet m (known_of (core p) m) (arrival_of (core p) m)
met-below p quiet zero m low analysed = absurd (omega arith)
met-below p quiet (suc k) m low analysed =
    let method = method-there (core p) m analysed in
    record {
      method = method.0;
      there = method.1;
      begins = (is_right p m method.0 method.1 analysed).begins;
      meets = method-met p quiet m method.0 method.1 analysed
          (callees-met p quiet m method.0 method.1 analysed
          (λ callee less of. met-below p quiet k callee (omega arith) of));
    }

-- each way to a record of an analysed method leads to the record's access
pub arrivals-met : (p : Program) (quiet : Quietness (core p)) (m : MethodId) → is_analysed (core p) m ≡ true →
    AreMet (core p) quiet m (known_of (core p) m) (arrival_of (core p) m)
arrivals-met p quiet m analysed = met-below p quiet (suc (rank_of (core p) m)) m (omega arith) analysed
