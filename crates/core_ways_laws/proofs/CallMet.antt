-- What comes next towards a record at a call is the access of the callee's record.
use Rattle.std.proofs.Common.{◌≡◌, ℕ, Bool, true, List, Option, None, Some, refl, sym, ap, subst}
use Rattle.racer_base.specs.declared.ids.MethodId.{MethodId}
use Rattle.racer_base.specs.declared.ids.SiteId.{SiteId}
use Rattle.owner_domain.specs.declared.value.State.{State}
use Rattle.access_domain.specs.declared.access.Access.{Access}
use Rattle.access_domain.specs.Findings.{Findings, Known, Large, Whole, Table}
use Rattle.access_domain.specs.FlowContext.{FlowContext, given_of, is_static_method}
use Rattle.access_domain.specs.Operations.{call_effects, op_effects, passed_from}
use Rattle.access_domain.specs.Substitution.{Actuals, actuals_from}
use Rattle.access_domain.proofs.OperationRecords.{IsThrough, callee_record}
use Rattle.core_code.specs.declared.code.Op.TheVariants.{Call}
use Rattle.core_code.specs.CallFacts.{is_right_call}
use Rattle.core_code.specs.Core.{Core, Method}
use Rattle.core_code.specs.KindCheck.{kinds_after_op}
use Rattle.core_code.specs.Kinds.{StackKind}
use Rattle.core_code.proofs.Membership.{In}
use Rattle.core_ways_laws.specs.Arrivals.{Arrival, Arrivals, arrival_at}
use Rattle.core_ways_laws.specs.Values.{Point, received, values_passed}
use Rattle.core_ways_laws.specs.Kept.{AreMet, IsEntered, IsMet}
use Rattle.core_ways_laws.specs.Names.{Naming, callee_naming}
use Rattle.core_ways_laws.specs.Places.{AreHushed, IsFrame, IsStore}
use Rattle.core_ways_laws.specs.Quiet.{Quietness}
use Rattle.core_ways_laws.proofs.CalleeRecords.{met-through}
use Rattle.core_ways_laws.proofs.CallKept.{IsTaken, received-by, taken}
use Rattle.core_ways_laws.proofs.Entering.{call-entered}
use Rattle.core_ways_laws.proofs.Hushing.{hush-callee}

module _ (core : Core) (quiet : Quietness core) (n : Naming) (method : Method) where
  -- towards the record of a callee of which all is known
  whole-call-met : (g : FlowContext) (locked : Bool) (arrivals : Arrivals) (site : SiteId) (m : MethodId) (count : ℕ)
      (kinds ends : List StackKind) (s : State) (at : Point) (r : Access) (found : Findings) (known : Option Known)
      (met : AreMet core quiet m known (arrivals m)) → known ≡ Some (Whole found) →
      IsTaken met.method count kinds ends →
      g.is_static m ≡ met.method.is_static →
      AreHushed core quiet n (call_effects g locked site m count s (Some (Whole found))).wobbly →
      IsFrame core quiet n method kinds s at → IsStore core quiet at.store →
      In (call_effects g locked site m count s (Some (Whole found))).records r →
      IsMet core quiet n r (arrival_at core arrivals r.below (Call m count) at)
  whole-call-met g locked arrivals site m count kinds ends s at r found known met is takes_it static hushed frame
      stored has =
      let actuals : Actuals = actuals_from (g.is_static m) (passed_from s count) in
      let of : IsThrough g actuals found locked site r = callee_record g actuals found locked site r has in
      let entered : IsEntered core quiet (callee_naming n actuals) met.method (values_passed at count) at.store =
      subst (λ (b : Bool). IsEntered core quiet (callee_naming n (actuals_from b (passed_from s count))) met.method
      (values_passed at count) at.store) (sym static)
      (call-entered core quiet n met.method count kinds takes_it.rest s at takes_it.many met.begins takes_it.fits
      frame.stack).0 in
      let inner : IsMet core quiet (callee_naming n actuals) of.inner
      (arrivals m of.index (values_passed at count) at.store) =
      met.meets found is (callee_naming n actuals) (values_passed at count) at.store entered stored
      (hush-callee core quiet n g actuals found locked site hushed) of.index of.inner of.has in
      subst (λ (below : Option ℕ). IsMet core quiet n r (arrival_at core arrivals below (Call m count) at))
      (ap (λ (x : Access). x.below) of.is)
      (subst (λ (o : Option Method). IsMet core quiet n r (elim o as (λ _. Option Arrival) [
        | None ↦ None
        | Some x ↦ received x (values_passed at count) (arrivals m of.index (values_passed at count) at.store)
      ])) (sym met.there)
      (received-by (λ o. IsMet core quiet n r o) met.method (values_passed at count)
      (arrivals m of.index (values_passed at count) at.store) tt
      (met-through core quiet n g actuals of.inner r
      (arrivals m of.index (values_passed at count) at.store) (ap (λ (x : Access). x.kind) of.is) of.path
      inner)))

  known-call-met : (g : FlowContext) (locked : Bool) (arrivals : Arrivals) (site : SiteId) (m : MethodId) (count : ℕ)
      (kinds ends : List StackKind) (s : State) (at : Point) (r : Access) (known what : Option Known)
      (met : AreMet core quiet m known (arrivals m)) → known ≡ what →
      IsTaken met.method count kinds ends →
      g.is_static m ≡ met.method.is_static → AreHushed core quiet n (call_effects g locked site m count s what).wobbly →
      IsFrame core quiet n method kinds s at → IsStore core quiet at.store →
      In (call_effects g locked site m count s what).records r →
      IsMet core quiet n r (arrival_at core arrivals r.below (Call m count) at)
  known-call-met g locked arrivals site m count kinds ends s at r known None met is takes_it static hushed frame
      stored has = absurd has
  known-call-met g locked arrivals site m count kinds ends s at r known (Some Large) met is takes_it static hushed
      frame stored has = absurd has
  known-call-met g locked arrivals site m count kinds ends s at r known (Some (Whole found)) met is takes_it static
      hushed frame stored has =
      whole-call-met g locked arrivals site m count kinds ends s at r found known met is takes_it static hushed frame
      stored has

  pub call-met : (table : Table) (main locked : Bool) (arrivals : Arrivals) (site : SiteId) (m : MethodId) (count : ℕ)
      (kinds ends : List StackKind) (s : State) (at : Point) (r : Access) → is_right_call core (Call m count) ≡ true →
      (met : AreMet core quiet m (table m) (arrivals m)) →
      kinds_after_op core method (Call m count) kinds ≡ Some ends →
      AreHushed core quiet n (op_effects (given_of core table main) locked site (Call m count) s).wobbly →
      IsFrame core quiet n method kinds s at → IsStore core quiet at.store →
      In (op_effects (given_of core table main) locked site (Call m count) s).records r →
      IsMet core quiet n r (arrival_at core arrivals r.below (Call m count) at)
  call-met table main locked arrivals site m count kinds ends s at r right met fits hushed frame stored has =
      let static : is_static_method core m ≡ met.method.is_static =
      ap (λ (o : Option Method). elim o as (λ _. Bool) [ None ↦ true | Some x ↦ x.is_static ]) met.there in
      known-call-met (given_of core table main) locked arrivals site m count kinds ends s at r (table m)
      (table m) met refl
      (taken core method met.method m count kinds ends met.there right fits) static hushed frame stored has
