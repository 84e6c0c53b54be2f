-- Each call of an analysed method keeps the invariant, by rank.
use Rattle.std.proofs.Common.{◌≡◌, ℕ, zero, suc, ◌<◌, Bool, true, false, List, [], Option, None, Some}
use Rattle.std.proofs.Common.{is_none, unwrap_or, refl, sym, ap, subst, ◌∙◌, arith}
use Rattle.access_paths.specs.declared.path.Path.{Path}
use Rattle.racer_base.specs.declared.ids.MethodId.{MethodId}
use Rattle.owner_domain.specs.declared.value.Value.{Value as Called}
use Rattle.owner_domain.specs.declared.value.Value.TheVariants.{Unnamed}
use Rattle.core_code.specs.declared.code.Op.{Op as CoreOp}
use Rattle.core_code.specs.declared.code.Op.TheVariants.{Call}
use Rattle.core_code.specs.declared.program.Program.{Program}
use Rattle.core_code.specs.CallFacts.{is_right_call}
use Rattle.core_code.specs.Calls.{is_analysed, method_at, rank_of}
use Rattle.core_code.specs.Core.{Core, Method}
use Rattle.core_code.specs.Kinds.{StackKind, kind_of}
use Rattle.core_code.specs.Program.{core}
use Rattle.access_domain.specs.Findings.{Findings, Known, Whole, Table}
use Rattle.access_domain.specs.Operations.{Effects}
use Rattle.access_domain.specs.Summaries.{effects_given, known_of, known_of_callees, start_of}
use Rattle.core_semantics.specs.declared.object.Value.{Value}
use Rattle.core_semantics.specs.State.{Store}
use Rattle.access_domain.proofs.KnownMethods.{IsWhole, callee_known, is_whole}
use Rattle.core_ways_laws.specs.Values.{Point, End, Behind, Back, Calls, call_of, come_back, entry_point, value_back}
use Rattle.core_ways_laws.proofs.CalledValues.{call_of-code}
use Rattle.core_ways_laws.specs.Kept.{IsEntered, IsGiven, IsGood, IsKept}
use Rattle.core_ways_laws.specs.Names.{Naming, name_of}
use Rattle.core_ways_laws.specs.Places.{AreHushed, IsFrame, IsPlace, IsStore}
use Rattle.core_ways_laws.specs.Quiet.{Quietness}
use Rattle.core_ways_laws.proofs.Hushing.{hush-different}
use Rattle.core_ways_laws.proofs.Passing.{AreSafe, IsSafe, back-kept}
use Rattle.core_ways_laws.proofs.ProgramFacts.{IsRight, IsRightCall, is_right}
use Rattle.core_ways_laws.proofs.ProgramFacts.{known_analysed, lower_call, right_call}

-- an analysed method is there
pub method-there : (core : Core) (m : MethodId) → is_analysed core m ≡ true →
    (method : Method) × (method_at core m ≡ Some method)
method-there core m analysed =
    elim (method_at core m) as (λ o. method_at core m ≡ o →
    elim o as (λ _. Bool) [ None ↦ false | Some method ↦ is_none method.status ] ≡ true →
    (method : Method) × (method_at core m ≡ Some method)) [
      | None ↦ λ is h. absurd cc
      | Some method ↦ λ is h. (method, is)
    ] refl analysed

-- an operation is safe where each callee is
safe-op : (core : Core) (quiet : Quietness core) (table : Table) (calls : Calls) (op : CoreOp) →
    ((m : MethodId) (count : ℕ) → op ≡ Call m count → IsGood core quiet m (table m) (calls m)) →
    IsSafe core quiet table calls op
safe-op core quiet table calls (Call m count) good = good m count refl
safe-op core quiet table calls op good = tt

module _ (core : Core) (quiet : Quietness core) (n : Naming) (method : Method) where
  -- what is called by what code returns is called by what is found of the method
  pub given-back : (kinds : List StackKind) (e : Effects) (result : Called) (o : Option End) →
      unwrap_or e.result Unnamed ≡ result → IsKept core quiet n method kinds e o →
      IsGiven core quiet n (kind_of method.result) result (value_back o)
  given-back kinds e result None is kept_it = tt
  given-back kinds e result (Some (Behind at)) is kept_it = tt
  given-back kinds e result (Some (Back store value)) is kept_it =
      let same : kept_it.called ≡ result =
      ap (λ (r : Option Called). unwrap_or r Unnamed) (sym kept_it.result) ∙ is in (
        kept_it.store,
        subst (λ (v : Called). IsPlace core quiet (kind_of method.result) (name_of n v) value) same
            kept_it.place,
      )

module _ (p : Program) (quiet : Quietness (core p)) where
  -- the callees of a method are good where the methods of smaller ranks are
  callees : (m : MethodId) (method : Method) → method_at (core p) m ≡ Some method →
      is_analysed (core p) m ≡ true →
      ((callee : MethodId) → rank_of (core p) callee < rank_of (core p) m → is_analysed (core p) callee ≡ true →
      IsGood (core p) quiet callee (known_of (core p) callee) (call_of (core p) callee)) →
      AreSafe (core p) quiet (known_of_callees (core p) m) (call_of (core p)) method.code
  callees m method there analysed good = λ o stands.
      let right : IsRight (core p) method = is_right p m method there analysed in
      safe-op (core p) quiet (known_of_callees (core p) m) (call_of (core p)) o.op (λ callee count is.
      let low : rank_of (core p) callee < rank_of (core p) m =
      lower_call p m method there analysed o stands callee count is in
      let call : IsRightCall (core p) callee count = right_call (core p) callee count
      (subst (λ (op : CoreOp). is_right_call (core p) op ≡ true) is (right.calls o stands)) in
      subst (λ (known : Option Known). IsGood (core p) quiet callee known (call_of (core p) callee))
      (sym (callee_known (core p) m callee low)) (good callee low call.analysed))

  -- a method of which all is known keeps the invariant where its callees do
  code-keeps : (m : MethodId) (method : Method) → method_at (core p) m ≡ Some method →
      is_analysed (core p) m ≡ true →
      AreSafe (core p) quiet (known_of_callees (core p) m) (call_of (core p)) method.code →
      (found : Findings) → known_of (core p) m ≡ Some (Whole found) → (n : Naming) (values : List Value)
      (store : Store) → IsEntered (core p) quiet n method values store → IsStore (core p) quiet store →
      AreHushed (core p) quiet n found.wobbly →
      IsGiven (core p) quiet n (kind_of method.result) found.result (call_of (core p) m values store)
  code-keeps m method there analysed safe found known n values store entered stored hush =
      let table : Table = known_of_callees (core p) m in
      let e : Effects = effects_given (core p) table method in
      let right : IsRight (core p) method = is_right p m method there analysed in
      let whole : IsWhole (core p) m method found = is_whole (core p) m method found there known in
      let at : Point = entry_point method values store in
      let hushed : AreHushed (core p) quiet n e.wobbly = hush-different (core p) quiet n e.wobbly
      (subst (λ (ws : List Path). AreHushed (core p) quiet n ws) (sym whole.wobbly) hush) in
      let frame : IsFrame (core p) quiet n method [] (start_of method) at = record { vars = entered; stack = tt } in
      subst (λ (call : List Value → Store → Option (Store × Value)).
      IsGiven (core p) quiet n (kind_of method.result) found.result (call values store))
      (sym (call_of-code (core p) p.ranks_there m method there analysed))
      (given-back (core p) quiet n method right.kinds e found.result
      (come_back (core p) (call_of (core p)) method.code at)
      whole.result
      (back-kept (core p) quiet n method table method.main (call_of (core p)) method.code right.calls safe false []
      right.kinds (start_of method) at right.kinded hushed whole.small frame stored))

  good-below : (k : ℕ) (m : MethodId) → rank_of (core p) m < k → is_analysed (core p) m ≡ true →
      IsGood (core p) quiet m (known_of (core p) m) (call_of (core p) m)
  good-below zero m low analysed = absurd (omega arith)
  good-below (suc k) m low analysed =
      let there = method-there (core p) m analysed in
      let right : IsRight (core p) there.0 = is_right p m there.0 there.1 analysed in
      let known = known_analysed (core p) m there.0 there.1 analysed in
      let safe : AreSafe (core p) quiet (known_of_callees (core p) m) (call_of (core p)) there.0.code =
      callees m there.0 there.1 analysed (λ callee lower is.
      good-below k callee (omega (arith, low, lower)) is) in
      record {
        method = there.0;
        there = there.1;
        begins = right.begins;
        what = known.0;
        is = known.1;
        keeps = λ found is n values store entered stored hush.
            code-keeps m there.0 there.1 analysed safe found (known.1 ∙ ap Some is) n values store entered stored hush;
      }

  pub good-method : (m : MethodId) → is_analysed (core p) m ≡ true →
      IsGood (core p) quiet m (known_of (core p) m) (call_of (core p) m)
  good-method m analysed = good-below (suc (rank_of (core p) m)) m (omega arith) analysed

  pub good-callees : (m : MethodId) (method : Method) → method_at (core p) m ≡ Some method →
      is_analysed (core p) m ≡ true →
      AreSafe (core p) quiet (known_of_callees (core p) m) (call_of (core p)) method.code
  good-callees m method there analysed =
      callees m method there analysed (λ callee low is. good-method callee is)
