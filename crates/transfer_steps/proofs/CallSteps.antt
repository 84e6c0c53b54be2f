-- A call over numbers does what the operation says in paths.
use Rattle.std.proofs.Common.{◌≡◌, ℕ, Bool, true, List, Option, None, Some, option_map, refl, sym, ap, subst, ◌∙◌}
use Rattle.std.specs.Prelude.{Result, Ok, Err, OnOk}
use Rattle.racer_base.specs.declared.ids.MethodId.{MethodId}
use Rattle.racer_base.specs.declared.ids.SiteId.{SiteId}
use Rattle.access_paths.specs.declared.path.Path.{Path}
use Rattle.access_paths.specs.Table.{GoesOn}
use Rattle.owner_domain.specs.declared.value.State.{State}
use Rattle.owner_domain.specs.declared.value.Value.{Value}
use Rattle.owner_domain.specs.declared.value.Value.TheVariants.{Unnamed}
use Rattle.owner_domain.specs.declared.numbered.NumberedState.{NumberedState}
use Rattle.owner_domain.specs.declared.numbered.NumberedValue.TheVariants as number
use Rattle.owner_domain.specs.Numbered.{read_state, AllInRange, AreInRange}
use Rattle.core_code.specs.declared.code.Op.TheVariants.{Call}
use Rattle.access_domain.specs.Findings.{Findings, Known, Large, Whole}
use Rattle.access_domain.specs.FlowContext.{FlowContext}
use Rattle.access_domain.specs.Operations.{Effects, op_effects, call_effects, found_effects, passed_from, replaced}
use Rattle.access_domain.specs.Substitution.{actuals_from, substituted, substituted_value}
use Rattle.call_subst.specs.Numbered.{read_values}
use Rattle.transfer_steps.specs.declared.found.Found.{Found}
use Rattle.transfer_steps.specs.declared.found.Stop.{Stop}
use Rattle.transfer_steps.specs.declared.found.Stop.TheVariants as stop
use Rattle.transfer_steps.specs.declared.noted_calls.NotedCall.{NotedCall}
use Rattle.transfer_steps.specs.declared.numbered_found.NumberedFound.{NumberedFound}
use Rattle.access_domain.specs.declared.summary.Outcome.{Outcome}
use Rattle.transfer_steps.specs.declared.calls.Callee.{Callee}
use Rattle.transfer_steps.specs.Known.{known_in, callee_outcome, table_of}
use Rattle.transfer_steps.specs.Marks.{IsNoted, IsStopped}
use Rattle.transfer_steps.specs.Numbered.{read_found, read_call, read_calls, AreCallNumbers, IsFlowOf}
use Rattle.transfer_steps.specs.NotedCalls.{AreFound, PassingCall}
use Rattle.owner_domain.specs.Slots.{passed_numbers, replaced_numbers}
use Rattle.transfer_steps.specs.Walks.{IsFlow, call_marks}
use Rattle.transfer_steps.proofs.Callees.{stopped-call, flow-found}
use Rattle.transfer_steps.proofs.CallsRead.{calls-still, all-found-longer}
use Rattle.transfer_steps.proofs.Longer.{passed-in, passed-read, on_ok_then}
use Rattle.transfer_steps.proofs.Marking.{noted-nothing}
use Rattle.transfer_steps.proofs.Readings.{values-longer, all-longer, state-longer, found-longer}
use Rattle.transfer_steps.proofs.SlotsRead.{replaced-read, replaced-in}

-- ---- a method of which nothing is known

module _ (g : FlowContext) (locked : Bool) (site : SiteId) (m : MethodId) (n : ℕ) (table : List Path)
    (s here : NumberedState) (is : here ≡ replaced_numbers s n number.Unnamed) where
  unread-state : read_state table here ≡ replaced (read_state table s) n Unnamed
  unread-state = ap (read_state table) is ∙ replaced-read table s n number.Unnamed

  pub unread-flow : (f : NumberedFound) → g.known_of m ≡ None →
      IsFlow (op_effects g locked site (Call m n) (read_state table s)) (read_state table here) (read_found table f)
      (read_found table f) (Ok true)
  unread-flow f known =
      subst (λ (k : Option Known). IsFlow (call_effects g locked site m n (read_state table s) k)
      (read_state table here) (read_found table f) (read_found table f) (Ok true)) (sym known)
      (ap Some (sym unread-state), noted-nothing (read_found table f) (replaced (read_state table s) n Unnamed))

  pub unread-in : AreInRange table s → AreInRange table here
  unread-in low = subst (AreInRange table) (sym is) (replaced-in table s n number.Unnamed low tt)

  pub unread-numbers : (f : NumberedFound) → IsFlowOf table s f → IsFlowOf table here f
  unread-numbers f low = record { once = low.once; state = unread-in low.state; noted = low.noted }

  pub unread-next : g.known_of m ≡ None →
      (op_effects g locked site (Call m n) (read_state table s)).next ≡ Some (read_state table here)
  unread-next known =
      ap (λ (o : Option Known). (call_effects g locked site m n (read_state table s) o).next) known
      ∙ ap Some (sym unread-state)

  -- the state behind a call of a method that has too much
  pub large-next : g.known_of m ≡ Some Large →
      (op_effects g locked site (Call m n) (read_state table s)).next ≡ Some (read_state table here)
  large-next known =
      ap (λ (o : Option Known). (call_effects g locked site m n (read_state table s) o).next) known
      ∙ ap Some (sym unread-state)

pub large-call : (g : FlowContext) (locked : Bool) (site : SiteId) (m : MethodId) (n : ℕ) (s : State) (old : Found) →
    g.known_of m ≡ Some Large → IsStopped old (op_effects g locked site (Call m n) s) stop.Large
large-call g locked site m n s old known =
    subst (λ (k : Option Known). IsStopped old (call_effects g locked site m n s k) stop.Large) (sym known) refl

-- ---- a method of which all is known

module _ (g : FlowContext) (m : MethodId) (f : Findings) (known : g.known_of m ≡ Some (Whole f)) (locked : Bool)
    (n : ℕ) (older newer : List Path) (first : GoesOn older newer) (s : NumberedState) (made : NotedCall)
    (low : AreInRange older s)
    (is : made ≡ record { callee = m; locked = locked; actuals = passed_numbers s n }) where
  pub made-known : g.known_of made.callee ≡ Some (Whole f)
  made-known = ap (λ (c : NotedCall). g.known_of c.callee) is ∙ known

  pub made-in : AllInRange newer made.actuals
  made-in =
      subst (λ (c : NotedCall). AllInRange newer c.actuals) (sym is)
      (all-longer older newer first (passed_numbers s n) (passed-in older s n low))

  passed-longer : read_values newer (passed_numbers s n) ≡ passed_from (read_state older s) n
  passed-longer = values-longer older newer first (passed_numbers s n) (passed-in older s n low) ∙ passed-read older s n

  -- the call that was made, in paths
  abbrev of_call : PassingCall
  of_call = record { callee = m; locked = locked; actuals = read_values newer (passed_numbers s n) }

  call-is : read_call newer made ≡ of_call
  call-is = ap (read_call newer) is

  pub call-ended : (f0 : NumberedFound) (site : SiteId) (why : Stop) → IsFlowOf older s f0 →
      IsStopped (read_found newer f0) (call_marks g (read_call newer made) f site) why →
      IsStopped (read_found older f0) (op_effects g locked site (Call m n) (read_state older s)) why
  call-ended f0 site why numbers k =
      subst (λ (o : Option Known). IsStopped (read_found older f0)
      (call_effects g locked site m n (read_state older s) o) why)
      (sym known)
      (stopped-call g of_call f site n (read_state older s) (read_found older f0) why passed-longer
      (subst (λ (c : PassingCall). IsStopped (read_found older f0) (call_marks g c f site) why) call-is
      (subst (λ (x : Found). IsStopped x (call_marks g (read_call newer made) f site) why)
      (found-longer older newer first f0 numbers.noted) k)))

  pub call-done : (newest : List Path) → GoesOn newer newest →
      (here : NumberedState) (f0 f2 : NumberedFound) (site : SiteId) →
      IsFlowOf older s f0 → AreInRange newer here →
      read_state newer here ≡ replaced (read_state older s) n
      (substituted_value (actuals_from (g.is_static m) (passed_from (read_state older s) n)) f.result) →
      IsNoted (read_found newer f0) (call_marks g (read_call newer made) f site) (read_found newest f2) →
      IsFlow (op_effects g locked site (Call m n) (read_state older s)) (read_state newest here) (read_found older f0)
      (read_found newest f2) (Ok true)
  call-done newest second here f0 f2 site numbers within next k =
      let start = read_state older s in
      let noted : IsNoted (read_found older f0) (call_marks g of_call f site) (read_found newest f2) =
      subst (λ (c : PassingCall). IsNoted (read_found older f0) (call_marks g c f site) (read_found newest f2)) call-is
      (subst (λ (x : Found). IsNoted x (call_marks g (read_call newer made) f site) (read_found newest f2))
      (found-longer older newer first f0 numbers.noted) k) in
      subst (λ (o : Option Known). IsFlow (call_effects g locked site m n start o) (read_state newest here)
      (read_found older f0) (read_found newest f2) (Ok true)) (sym known) (
        ap Some (sym (state-longer newer newest second here within ∙ next)),
        subst (λ (vs : List Value). IsNoted (read_found older f0)
            (found_effects (substituted g (actuals_from (g.is_static m) vs) f locked site) start n)
            (read_found newest f2))
            passed-longer noted,
      )

-- the state behind a call of a method of which all is known
pub whole-next : (g : FlowContext) (m : MethodId) (f : Findings) (locked : Bool) (site : SiteId) (n : ℕ)
    (s here : State) →
    g.known_of m ≡ Some (Whole f) →
    here ≡ replaced s n (substituted_value (actuals_from (g.is_static m) (passed_from s n)) f.result) →
    (op_effects g locked site (Call m n) s).next ≡ Some here
whole-next g m f locked site n s here known is =
    ap (λ (o : Option Known). (call_effects g locked site m n s o).next) known ∙ ap Some (sym is)

-- what is known of a method whose outcome is handed in
pub known-of : (callees : List Callee) (m : MethodId) (o : Option Outcome) → o ≡ callee_outcome callees m →
    table_of callees m ≡ option_map known_in o
known-of callees m o is = ap (option_map known_in) (sym is)

-- ---- operations that are no calls

module _ (old new : List Path) (calls : List NotedCall) (called : AreCallNumbers old calls) (r : Result Bool Stop)
    (on : OnOk r (GoesOn old new)) where
  pub step-called : OnOk r (AreCallNumbers new calls)
  step-called =
      on_ok_then r (GoesOn old new) (AreCallNumbers new calls) on (λ longer. calls-still old new longer calls called)

  pub step-calls : (g : FlowContext) (e : Effects) (here : State) (f later : NumberedFound) →
      IsFlow e here (read_found old f) (read_found new later) r →
      AreFound g (read_calls old calls) (read_found old f) →
      OnOk r (AreFound g (read_calls new calls) (read_found new later))
  step-calls g e here f later m h =
      both r (flow-found g (read_calls old calls) here (read_found old f) (read_found new later) e r m h) on
    where
      both : (a : Result Bool Stop) → OnOk a (AreFound g (read_calls old calls) (read_found new later)) →
          OnOk a (GoesOn old new) → OnOk a (AreFound g (read_calls new calls) (read_found new later))
      both (Ok b) found longer = all-found-longer old new longer g calls (read_found new later) called found
      both (Err s) found longer = tt
