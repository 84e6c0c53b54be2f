-- Code that is gone through over numbers, through tables that go on.
use Rattle.std.proofs.Common.{◌≡◌, Bool, true, List, [], refl, sym, ap, subst, ◌∙◌}
use Rattle.std.specs.Prelude.{Result, Ok, Err, IfOk, OnOk}
use Rattle.access_paths.specs.declared.path.Path.{Path}
use Rattle.access_paths.specs.Table.{GoesOn}
use Rattle.owner_domain.specs.declared.value.State.{State}
use Rattle.owner_domain.specs.declared.numbered.NumberedState.{NumberedState}
use Rattle.owner_domain.specs.Numbered.{read_state, AreInRange}
use Rattle.core_code.specs.Tree.{LockAt, Tree, Choice, Loop, Sync}
use Rattle.access_domain.specs.FlowContext.{FlowContext}
use Rattle.access_domain.specs.Flow.{flow, rounds, joined_next, lost_next}
use Rattle.transfer_loops.specs.Rounds.{rounds_of}
use Rattle.transfer_steps.specs.declared.found.Found.{Found}
use Rattle.transfer_steps.specs.declared.found.Stop.{Stop}
use Rattle.transfer_steps.specs.declared.noted_calls.NotedCall.{NotedCall}
use Rattle.transfer_steps.specs.declared.numbered_found.NumberedFound.{NumberedFound}
use Rattle.transfer.specs.Heights.{IsHighEnough}
use Rattle.transfer_steps.specs.Marks.{IsMarked, IsNoted, IsStopped, marks}
use Rattle.transfer_steps.specs.NotedCalls.{AreFound}
use Rattle.transfer_steps.specs.Numbered.{read_found, read_calls, AreCallNumbers, IsFlowOf}
use Rattle.owner_domain.specs.Slots.{popped_numbers}
use Rattle.transfer_steps.specs.Walks.{IsFlow, AreRoundsDone, next_of}
use Rattle.transfer_steps.proofs.Callees.{marked-found, noted-found}
use Rattle.transfer_steps.proofs.CallsRead.{all-found-longer}
use Rattle.transfer.proofs.Ways.{flow-chosen, stopped-right, rounds-ended, last-stopped}
use Rattle.transfer.proofs.HighEnough.{high_held, high_body}
use Rattle.transfer_steps.proofs.Longer.{on_ok_then}
use Rattle.transfer_steps.proofs.Readings.{state-longer, state-still}
use Rattle.transfer.proofs.Rounding.{rounds-left}
use Rattle.transfer_steps.proofs.SlotsRead.{popped-read, popped-in}

-- a copy of a state that was there before
module _ (old new : List Path) (on : GoesOn old new) (s x : NumberedState) (same : x ≡ s) (low : AreInRange old s) where
  pub copied-read : read_state new x ≡ read_state old s
  copied-read = ap (read_state new) same ∙ state-longer old new on s low

  pub copied-in : AreInRange new x
  copied-in = subst (AreInRange new) (sym same) (state-still old new on s low)

  pub copied-ready : (here : NumberedState) (later : NumberedFound) → IsFlowOf new here later → IsFlowOf new x later
  copied-ready here later after = record { once = after.once; state = copied-in; noted = after.noted }

  pub copied-high : (code : Tree) → IsHighEnough code (read_state old s) → IsHighEnough code (read_state new x)
  copied-high code high = subst (IsHighEnough code) (sym copied-read) high

-- ---- choices

module _ (g : FlowContext) (left right : Tree) (locked : Bool) (older newer : List Path) (first : GoesOn older newer)
    (s x : NumberedState) (f0 f1 : NumberedFound) (same : x ≡ s) (low : AreInRange older s) where
  pub right-stopped : (stop : Stop) →
      IsNoted (read_found older f0) (flow g left locked (read_state older s)) (read_found newer f1) →
      IsStopped (read_found newer f1) (flow g right locked (read_state newer x)) stop →
      IsStopped (read_found older f0) (flow g (Choice left right) locked (read_state older s)) stop
  right-stopped stop m k =
      stopped-right (flow g left locked (read_state older s)) (flow g right locked (read_state older s))
      (read_found older f0)
      (read_found newer f1) stop m
      (subst (λ (y : State). IsStopped (read_found newer f1) (flow g right locked y) stop)
      (copied-read older newer first s x same low) k)

  module _ (newest : List Path) (second : GoesOn newer newest) (one two here : NumberedState) (f2 f3 : NumberedFound)
      (p q : Bool) (r : Result Bool Stop) (lower : IsFlowOf newer one f1) (last : IsFlowOf newest two f2) where
    pub ways-ready : IsFlowOf newest one f2
    ways-ready = record {
      once = last.once;
      state = state-still newer newest second one lower.state;
      noted =
          last.noted;
    }

    pub ways-met : IsFlow (flow g left locked (read_state older s)) (read_state newer one) (read_found older f0)
        (read_found newer f1) (Ok p) →
        IsFlow (flow g right locked (read_state newer x)) (read_state newest two) (read_found newer f1)
        (read_found newest f2) (Ok q) →
        IfOk r (λ goes_on. (table : List Path) → IsFlowOf table one f2 → AreInRange table two →
        next_of goes_on (read_state table here) ≡ joined_next (next_of p (read_state table one))
        (next_of q (read_state table two))) →
        ((table : List Path) → IsFlowOf table one f2 → AreInRange table two → IsMarked (read_found table f2)
        (marks [] (lost_next (next_of p (read_state table one)) (next_of q (read_state table two))))
        (read_found table f3) r) →
        IsFlow (flow g (Choice left right) locked (read_state older s)) (read_state newest here) (read_found older f0)
        (read_found newest f3) r
    ways-met l m state found =
        let start = read_state older s in
        let done : IsFlow (flow g right locked start) (read_state newest two) (read_found newer f1)
        (read_found newest f2) (Ok q) =
        subst (λ (y : State). IsFlow (flow g right locked y) (read_state newest two) (read_found newer f1)
        (read_found newest f2)
        (Ok q)) (copied-read older newer first s x same low) m in
        let left_end = next_of p (read_state newest one) in
        let right_end = next_of q (read_state newest two) in
        let longer : next_of p (read_state newer one) ≡ left_end =
        ap (next_of p) (sym (state-longer newer newest second one lower.state)) in
        flow-chosen (flow g left locked start) (flow g right locked start) left_end right_end (read_state newest here)
        (read_found older f0) (read_found newer f1) (read_found newest f2) (read_found newest f3) r
        (l.0 ∙ longer) done.0 l.1 done.1
        (each r state) (found newest ways-ready last.state)
      where
        each : (a : Result Bool Stop) → IfOk a (λ goes_on. (table : List Path) → IsFlowOf table one f2 →
            AreInRange table two → next_of goes_on (read_state table here) ≡
            joined_next (next_of p (read_state table one)) (next_of q (read_state table two))) →
            IfOk a (λ goes_on. next_of goes_on (read_state newest here) ≡
            joined_next (next_of p (read_state newest one)) (next_of q (read_state newest two)))
        each (Ok b) state = state newest ways-ready last.state
        each (Err e) state = tt

    pub ways-numbers : OnOk r ((table : List Path) → IsFlowOf table one f2 → AreInRange table two →
        IsFlowOf table here f3) → OnOk r (IsFlowOf newest here f3)
    ways-numbers numbers =
        on_ok_then r ((table : List Path) → IsFlowOf table one f2 → AreInRange table two → IsFlowOf table here f3)
        (IsFlowOf newest here f3) numbers (λ each. each newest ways-ready last.state)

    pub ways-called : (calls : List NotedCall) → AreFound g (read_calls newest calls) (read_found newest f2) →
        ((table : List Path) → IsFlowOf table one f2 → AreInRange table two → IsMarked (read_found table f2)
        (marks [] (lost_next (next_of p (read_state table one)) (next_of q (read_state table two))))
        (read_found table f3) r) → OnOk r (AreFound g (read_calls newest calls) (read_found newest f3))
    ways-called calls h found =
        marked-found g (read_calls newest calls) (read_found newest f2) (read_found newest f3)
        (marks [] (lost_next (next_of p (read_state newest one)) (next_of q (read_state newest two)))) r
        (found newest ways-ready last.state) h

-- ---- locks

module _ (table : List Path) (s : NumberedState) (found : NumberedFound) (low : IsFlowOf table s found) where
  pub held-ready : IsFlowOf table (popped_numbers s 1) found
  held-ready = record { once = low.once; state = popped-in table s 1 low.state; noted = low.noted }

  pub held-high : (lock : LockAt) (body : Tree) → IsHighEnough (Sync lock body) (read_state table s) →
      IsHighEnough body (read_state table (popped_numbers s 1))
  held-high lock body high =
      subst (IsHighEnough body) (sym (popped-read table s 1)) (high_held lock body (read_state table s) high)

  pub held-flow : (g : FlowContext) (lock : LockAt) (body : Tree) (locked : Bool) (here : State) (later : Found)
      (r : Result Bool Stop) →
      IsFlow (flow g body true (read_state table (popped_numbers s 1))) here (read_found table found) later r →
      IsFlow (flow g (Sync lock body) locked (read_state table s)) here (read_found table found) later r
  held-flow g lock body locked here later r m =
      subst (λ (y : State). IsFlow (flow g body true y) here (read_found table found) later r) (popped-read table s 1) m

-- ---- loops

module _ (g : FlowContext) (body : Tree) (locked : Bool) (older newer : List Path) (first : GoesOn older newer)
    (s here end : NumberedState) (f0 f1 : NumberedFound) (same : end ≡ here)
    (done : AreRoundsDone (flow g body locked) (read_state older s) (read_state newer here) (read_found older f0)
    (read_found newer f1) (Ok (tt {0}))) (low : IsFlowOf newer here f1) where
  pub body-high : IsHighEnough (Loop body) (read_state newer here) → IsHighEnough body (read_state newer end)
  body-high high =
      subst (λ (x : NumberedState). IsHighEnough body (read_state newer x)) (sym same)
      (high_body body (read_state newer here) high)

  pub body-ready : IsFlowOf newer end f1
  body-ready =
      record { once = low.once; state = subst (AreInRange newer) (sym same) low.state; noted = low.noted }

  pub body-found : (calls : List NotedCall) → AreCallNumbers older calls →
      AreFound g (read_calls older calls) (read_found older f0) →
      AreFound g (read_calls newer calls) (read_found newer f1)
  body-found calls called h =
      all-found-longer older newer first g calls (read_found newer f1) called
      (noted-found g (read_calls older calls) (read_found older f0) (read_found newer f1)
      (marks [] (rounds (flow g body locked) (rounds_of (read_state older s)) (read_state older s)).1) done.1 h)

  pub loop-stopped : (stop : Stop) →
      IsStopped (read_found newer f1) (flow g body locked (read_state newer end)) stop →
      IsStopped (read_found older f0) (flow g (Loop body) locked (read_state older s)) stop
  loop-stopped stop m =
      last-stopped (flow g body locked) 0 (read_state older s) (read_state newer here) (read_found older f0)
      (read_found newer f1) stop refl
      (rounds-left (flow g body locked) (read_state older s) (read_state newer here) (read_found older f0)
      (read_found newer f1)
      done)
      (subst (λ (x : NumberedState). IsStopped (read_found newer f1) (flow g body locked (read_state newer x)) stop)
      same m)

  module _ (newest : List Path) (second : GoesOn newer newest) (f2 : NumberedFound) where
    pub loop-done : IsNoted (read_found newer f1) (flow g body locked (read_state newer end)) (read_found newest f2) →
        IsFlow (flow g (Loop body) locked (read_state older s)) (read_state newest here) (read_found older f0)
        (read_found newest f2)
        (Ok true)
    loop-done m =
        subst (λ (y : State). IsFlow (flow g (Loop body) locked (read_state older s)) y (read_found older f0)
        (read_found newest f2) (Ok true)) (sym (state-longer newer newest second here low.state))
        (rounds-ended (flow g body locked) 0 (read_state older s) (read_state newer here) (read_found older f0)
        (read_found newer f1) (read_found newest f2) refl
        (rounds-left (flow g body locked) (read_state older s) (read_state newer here) (read_found older f0)
        (read_found newer f1)
        done)
        (subst (λ (x : NumberedState). IsNoted (read_found newer f1) (flow g body locked (read_state newer x))
        (read_found newest f2)) same m))

    pub loop-numbers : (e : NumberedState) → IsFlowOf newest e f2 → IsFlowOf newest here f2
    loop-numbers e last =
        record { once = last.once; state = state-still newer newest second here low.state; noted = last.noted }
