-- A call of a method that keeps the invariant keeps it.
use Rattle.std.proofs.Common.{◌≡◌, ℕ, Bool, true, false, cond, List, ◌∷◌, Option, None, Some, length}
use Rattle.std.proofs.Common.{drop, nat_eq, reverse, refl, sym, ap, subst, ◌∙◌}
use Rattle.std.proofs.lemmas.Bool.{eqb-true, and_parts}
use Rattle.std.specs.Prelude.{Ok, Err}
use Rattle.racer_base.specs.declared.ids.MethodId.{MethodId}
use Rattle.racer_base.specs.declared.ids.SiteId.{SiteId}
use Rattle.access_paths.specs.declared.path.Path.{Path}
use Rattle.owner_domain.specs.declared.value.Value.{Value as Called}
use Rattle.owner_domain.specs.declared.value.State.{State}
use Rattle.core_code.specs.declared.code.Op.TheVariants.{Call}
use Rattle.core_code.specs.Calls.{method_at, is_analysed, taken_by}
use Rattle.core_code.specs.CallFacts.{is_right_call, takes}
use Rattle.core_code.specs.Core.{Core, Method}
use Rattle.core_code.specs.KindCheck.{Kinds, after_call, and_then, below_fitting, kinds_after_op}
use Rattle.core_code.specs.Kinds.{StackKind, kind_of}
use Rattle.access_domain.specs.Findings.{Findings, Known, Large, Whole, Table}
use Rattle.access_domain.specs.FlowContext.{FlowContext, given_of, is_static_method}
use Rattle.access_domain.specs.Operations.{Effects, call_effects, found_effects, op_effects, passed_from, replaced}
use Rattle.access_domain.specs.Substitution.{Actuals, actuals_from, substituted, substituted_value}
use Rattle.core_semantics.specs.declared.object.Value.{Value}
use Rattle.core_semantics.specs.State.{Store}
use Rattle.core_semantics.specs.Steps.{base_of}
use Rattle.core_ways_laws.specs.Values.{Point, End, Calls, evaluate_op, on_ok, received, returned_to, values_passed}
use Rattle.core_ways_laws.specs.Kept.{IsEntered, IsGiven, IsGood, IsKept}
use Rattle.core_ways_laws.specs.Names.{Naming, callee_naming, name_of}
use Rattle.core_ways_laws.specs.Places.{AreHushed, ArePlaces, IsFrame, IsPlace, IsStore}
use Rattle.core_ways_laws.specs.Quiet.{Quietness}
use Rattle.core_ways_laws.proofs.Entering.{call-entered}
use Rattle.core_ways_laws.proofs.Hushing.{hush-callee}
use Rattle.core_ways_laws.proofs.Naming.{name-substituted}

-- what holds where a call is stuck, and where it is not, holds where the receiver is tested
pub received-by : {Y : Type 0} (P : Option Y → Type 0) (method : Method) (values : List Value) (o : Option Y) →
    P None → P o → P (received method values o)
received-by {Y} P method values o none some =
    elim method.is_static as (λ b. P (cond b o (on_ok (base_of _) o))) [
      | true ↦ some
      | false ↦ elim (base_of _) as (λ r. P (on_ok r o)) [ Ok x ↦ some | Err e ↦ none ]
    ]

-- what a right call of a kinded method takes, and what it leaves below
pub record IsTaken (callee : Method) (count : ℕ) (kinds ends : List StackKind) : Type 0 where
  pub many : count ≡ length (taken_by callee)
  pub rest : List StackKind
  pub fits : below_fitting (reverse (taken_by callee)) kinds ≡ Some rest
  pub after : ends ≡ kind_of callee.result ∷ rest

below-rest : (kind : StackKind) (below : Kinds) (ends : List StackKind) →
    and_then below (λ rest. Some (kind ∷ rest)) ≡ Some ends →
    (rest : List StackKind) × (below ≡ Some rest) × (ends ≡ kind ∷ rest)
below-rest kind None ends is = absurd cc
below-rest kind (Some rest) ends is = (rest, refl, cc)

pub taken : (core : Core) (method callee : Method) (m : MethodId) (count : ℕ) (kinds ends : List StackKind) →
    method_at core m ≡ Some callee → is_right_call core (Call m count) ≡ true →
    kinds_after_op core method (Call m count) kinds ≡ Some ends → IsTaken callee count kinds ends
taken core method callee m count kinds ends there right fits =
    let called : after_call (Some callee) kinds ≡ Some ends =
    sym (ap (λ (o : Option Method). after_call o kinds) there) ∙ fits in
    let takes_all : takes core m count ≡ true = (and_parts (is_analysed core m) (takes core m count) right).1 in
    let same : count ≡ length (taken_by callee) = eqb-true count (length (taken_by callee))
    (sym (ap (λ (o : Option Method). elim o as (λ _. Bool) [
      | None ↦ false
      | Some x ↦ nat_eq count (length (taken_by x))
    ]) there) ∙ takes_all) in
    let below = below-rest (kind_of callee.result) (below_fitting (reverse (taken_by callee)) kinds) ends called in
    record { many = same; rest = below.0; fits = below.1; after = below.2 }

module _ (core : Core) (quiet : Quietness core) (n : Naming) (method : Method) where
  returned-kept : (kinds ends : List StackKind) (e : Effects) (t : State) (at : Point) (count : ℕ) (v : Called)
      (kind : StackKind) (inner : Naming) (o : Option (Store × Value)) → e.next ≡ Some t →
      ((x : Value) → IsPlace core quiet kind (name_of inner v) x →
      IsFrame core quiet n method ends t
      (record { store = at.store; vars = at.vars; stack = x ∷ drop count at.stack })) →
      IsGiven core quiet inner kind v o → IsKept core quiet n method ends e (returned_to at count o)
  returned-kept kinds ends e t at count v kind inner None next frame given_back = tt
  returned-kept kinds ends e t at count v kind inner (Some (store, x)) next frame given_back =
      let there = frame x given_back.1 in
      record {
        store = given_back.0;
        state = t;
        next = next;
        frame = record { vars = there.vars; stack = there.stack };
      }

  -- what a call of a method of which all is known has of the method
  pub whole-call-kept : (kinds ends : List StackKind) (g : FlowContext) (locked : Bool) (site : SiteId) (s : State)
      (at : Point) (m : MethodId) (count : ℕ) (found : Findings) (known : Option Known)
      (call : List Value → Store → Option (Store × Value)) (good : IsGood core quiet m known call) →
      good.what ≡ Whole found → IsTaken good.method count kinds ends → (actuals : Actuals) →
      actuals ≡ actuals_from good.method.is_static (passed_from s count) →
      AreHushed core quiet n (substituted g actuals found locked site).wobbly →
      IsFrame core quiet n method kinds s at → IsStore core quiet at.store →
      IsKept core quiet n method ends (found_effects (substituted g actuals found locked site) s count)
      (returned_to at count (call (values_passed at count) at.store))
  whole-call-kept kinds ends g locked site s at m count found known call good whole takes_it actuals is hush frame
      stored =
      let callee : Method = good.method in
      let inner : Naming = callee_naming n actuals in
      let hushed : AreHushed core quiet inner found.wobbly =
      hush-callee core quiet n g actuals found locked site hush in
      let taken_places = call-entered core quiet n callee count kinds takes_it.rest s at takes_it.many good.begins
      takes_it.fits frame.stack in
      let entered : IsEntered core quiet inner callee (values_passed at count) at.store =
      subst (λ (a : Actuals). IsEntered core quiet (callee_naming n a) callee (values_passed at count) at.store)
      (sym is) taken_places.0 in
      returned-kept kinds ends (found_effects (substituted g actuals found locked site) s count)
      (replaced s count (substituted_value actuals found.result)) at count found.result (kind_of callee.result) inner
      (call (values_passed at count) at.store) refl
      (λ x place. record {
        vars = frame.vars;
        stack =
            subst (λ (ks : List StackKind). ArePlaces core quiet n ks
            (substituted_value actuals found.result ∷ drop count s.stack) (x ∷ drop count at.stack))
            (sym takes_it.after) (
              subst (λ (o : Option Path). IsPlace core quiet (kind_of callee.result) o x)
                  (sym (name-substituted n actuals found.result)) place,
              taken_places.1,
            );
      })
      (good.keeps found whole inner (values_passed at count) at.store entered stored hushed)

  -- by what is known of the method
  known-call-kept : (kinds ends : List StackKind) (g : FlowContext) (locked : Bool) (site : SiteId) (s : State)
      (at : Point) (m : MethodId) (count : ℕ) (known : Option Known)
      (call : List Value → Store → Option (Store × Value)) (good : IsGood core quiet m known call) (what : Known) →
      good.what ≡ what → IsTaken good.method count kinds ends → g.is_static m ≡ good.method.is_static →
      AreHushed core quiet n (call_effects g locked site m count s (Some what)).wobbly →
      (call_effects g locked site m count s (Some what)).large ≡ false →
      IsFrame core quiet n method kinds s at → IsStore core quiet at.store →
      IsKept core quiet n method ends (call_effects g locked site m count s (Some what))
      (returned_to at count (call (values_passed at count) at.store))
  known-call-kept kinds ends g locked site s at m count known call good Large is takes_it static hush small frame
      stored = absurd cc
  known-call-kept kinds ends g locked site s at m count known call good (Whole found) is takes_it static hush small
      frame stored =
      whole-call-kept kinds ends g locked site s at m count found known call good is takes_it
      (actuals_from (g.is_static m) (passed_from s count))
      (ap (λ (b : Bool). actuals_from b (passed_from s count)) static) hush frame stored

  pub call-kept : (table : Table) (main locked : Bool) (calls : Calls) (site : SiteId) (m : MethodId) (count : ℕ)
      (kinds ends : List StackKind) (s : State) (at : Point) → is_right_call core (Call m count) ≡ true →
      IsGood core quiet m (table m) (calls m) → kinds_after_op core method (Call m count) kinds ≡ Some ends →
      AreHushed core quiet n (op_effects (given_of core table main) locked site (Call m count) s).wobbly →
      (op_effects (given_of core table main) locked site (Call m count) s).large ≡ false →
      IsFrame core quiet n method kinds s at → IsStore core quiet at.store →
      IsKept core quiet n method ends (op_effects (given_of core table main) locked site (Call m count) s)
      (evaluate_op core calls (Call m count) at)
  call-kept table main locked calls site m count kinds ends s at right good fits hush small frame stored =
      let g : FlowContext = given_of core table main in
      let by : Option Known → Effects = λ o. call_effects g locked site m count s o in
      let takes_it : IsTaken good.method count kinds ends =
      taken core method good.method m count kinds ends good.there right fits in
      let static : is_static_method core m ≡ good.method.is_static =
      ap (λ (o : Option Method). elim o as (λ _. Bool) [ None ↦ true | Some x ↦ x.is_static ]) good.there in
      subst (λ (o : Option Method). IsKept core quiet n method ends (by (table m))
      (elim o as (λ _. Option End) [
        | None ↦ None
        | Some x ↦
            received x (values_passed at count)
            (returned_to at count (calls m (values_passed at count) at.store))
      ])) (sym good.there)
      (received-by (λ o. IsKept core quiet n method ends (by (table m)) o) good.method (values_passed at count)
      (returned_to at count (calls m (values_passed at count) at.store)) tt
      (subst (λ (o : Option Known). IsKept core quiet n method ends (by o)
      (returned_to at count (calls m (values_passed at count) at.store))) (sym good.is)
      (known-call-kept kinds ends g locked site s at m count (table m) (calls m) good good.what refl takes_it static
      (subst (λ (o : Option Known). AreHushed core quiet n (by o).wobbly) good.is hush)
      (ap (λ (o : Option Known). (by o).large) (sym good.is) ∙ small) frame stored)))
