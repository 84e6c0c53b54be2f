-- One round of a loop over numbers, of which the lost paths alone are noted.
use Rattle.std.proofs.Common.{◌≡◌, Bool, true, false, List, [], Option, None, Some, sym, ap, subst, ◌∙◌}
use Rattle.std.specs.Prelude.{Result, Ok, Err, IfOk, OnOk}
use Rattle.access_paths.specs.declared.path.Path.{Path}
use Rattle.access_paths.specs.Table.{GoesOn}
use Rattle.owner_domain.specs.declared.value.State.{State}
use Rattle.owner_domain.specs.declared.numbered.NumberedState.{NumberedState}
use Rattle.owner_domain.specs.Numbered.{read_state, AreInRange}
use Rattle.owner_domain.specs.Values.{joined_state, lost_state}
use Rattle.core_code.specs.Tree.{Tree, Loop}
use Rattle.access_domain.specs.FlowContext.{FlowContext}
use Rattle.access_domain.specs.Flow.{flow}
use Rattle.transfer_loops.specs.Rounds.{round_next, round_lost}
use Rattle.transfer_steps.specs.declared.found.Found.{Found}
use Rattle.transfer_steps.specs.declared.found.Stop.{Stop}
use Rattle.transfer_steps.specs.declared.numbered_found.NumberedFound.{NumberedFound}
use Rattle.transfer.specs.declared.resuming.Passed.{Passed}
use Rattle.transfer.specs.Heights.{IsHighEnough, AreSound}
use Rattle.transfer_steps.specs.Marks.{IsMarked, IsNoted, marks}
use Rattle.transfer_steps.specs.Numbered.{read_found, read_heads, IsFlowOf, IsResumedIn}
use Rattle.transfer.specs.Resumes.{IsResumed}
use Rattle.transfer_steps.specs.Walks.{next_of}
use Rattle.transfer.proofs.HighEnough.{round_resumed, high_round}
use Rattle.transfer_steps.proofs.Longer.{on_ok_then}
use Rattle.transfer_steps.proofs.Longer.{flow-still, marked-longer}
use Rattle.transfer_steps.proofs.Marking.{noted-nothing}
use Rattle.transfer_steps.proofs.Readings.{state-longer, found-longer}

module _ (g : FlowContext) (body : Tree) (locked : Bool) (older newer : List Path) (on : GoesOn older newer)
    (s x end : NumberedState) (hs mid : List (Option NumberedState)) (p : Passed) (f : NumberedFound) (same : x ≡ s)
    (low : IsFlowOf older s f)
    (m : IsResumed g body locked 0 (read_state older x) (read_state newer end) (read_heads older hs)
    (read_heads newer mid) (Ok p))
    (after : IsResumedIn newer end mid) (high : IsHighEnough (Loop body) (read_state older s))
    (sound : AreSound g body locked (read_heads older hs) (read_state older s)) where
  longer : read_state newer s ≡ read_state older s
  longer = state-longer older newer on s low.state

  resumed-round : ((flow g body locked (read_state older s)).next ≡ next_of p.goes_on (read_state newer end))
      × AreSound g body locked (read_heads newer mid)
      (round_next (read_state older s) (flow g body locked (read_state older s)).next)
  resumed-round =
      round_resumed g body locked (read_state older s) (read_state older x) (read_state newer end) (read_heads older hs)
      (read_heads newer mid) p (ap (read_state older) same) m high sound

  pub round-ready : IsFlowOf newer s f
  round-ready = flow-still older newer on s f after.once low

  -- ---- a body that does not go on

  module _ (ends : p.goes_on ≡ false) where
    none : (flow g body locked (read_state older s)).next ≡ None
    none = resumed-round.0 ∙ ap (λ (b : Bool). next_of b (read_state newer end)) ends

    pub ended-state : read_state newer s ≡ round_next (read_state older s)
        (flow g body locked (read_state older s)).next
    ended-state = longer ∙ sym (ap (round_next (read_state older s)) none)

    pub ended-found : IsNoted (read_found older f)
        (marks [] (round_lost (read_state older s) (flow g body locked (read_state older s)).next)) (read_found newer f)
    ended-found =
        subst (λ (o : Option State). IsNoted (read_found older f) (marks [] (round_lost (read_state older s) o))
        (read_found newer f)) (sym none)
        (subst (λ (y : Found). IsNoted (read_found older f) (marks [] []) y)
        (sym (found-longer older newer on f low.noted)) (noted-nothing (read_found older f) (read_state older s)))

    pub ended-sound : AreSound g body locked (read_heads newer mid) (read_state newer s)
    ended-sound = subst (AreSound g body locked (read_heads newer mid)) (sym ended-state) resumed-round.1

  pub ended-unchanged : read_state newer s ≡ read_state older s
  ended-unchanged = longer

  pub ended-high : IsHighEnough (Loop body) (read_state newer s)
  ended-high = subst (IsHighEnough (Loop body)) (sym longer) high

  -- ---- one that goes on

  module _ (goes : p.goes_on ≡ true) (here : NumberedState) (f1 : NumberedFound) (r : Result Bool Stop) where
    some : (flow g body locked (read_state older s)).next ≡ Some (read_state newer end)
    some = resumed-round.0 ∙ ap (λ (b : Bool). next_of b (read_state newer end)) goes

    pub met-state : OnOk r ((table : List Path) → IsFlowOf table s f → AreInRange table end →
        read_state table here ≡ joined_state (read_state table s) (read_state table end)) →
        OnOk r (read_state newer here ≡ round_next (read_state older s) (flow g body locked (read_state older s)).next)
    met-state state =
        on_ok_then r ((table : List Path) → IsFlowOf table s f → AreInRange table end →
        read_state table here ≡ joined_state (read_state table s) (read_state table end))
        (read_state newer here ≡ round_next (read_state older s) (flow g body locked (read_state older s)).next) state
        (λ each. each newer round-ready after.state
        ∙ ap (λ (y : State). joined_state y (read_state newer end)) longer
        ∙ sym (ap (round_next (read_state older s)) some))

    pub met-unchanged : IfOk r (λ changed. changed ≡ false → here ≡ s) →
        IfOk r (λ changed. changed ≡ false → read_state newer here ≡ read_state older s)
    met-unchanged unchanged = each r unchanged
      where
        each : (a : Result Bool Stop) → IfOk a (λ changed. changed ≡ false → here ≡ s) →
            IfOk a (λ changed. changed ≡ false → read_state newer here ≡ read_state older s)
        each (Ok b) kept = λ e. ap (read_state newer) (kept e) ∙ longer
        each (Err e) kept = tt

    pub met-found : ((table : List Path) → IsFlowOf table s f → AreInRange table end → IsMarked (read_found table f)
        (marks [] (lost_state (read_state table s) (read_state table end))) (read_found table f1) r) →
        IsMarked (read_found older f)
        (marks [] (round_lost (read_state older s) (flow g body locked (read_state older s)).next))
        (read_found newer f1) r
    met-found found =
        subst (λ (o : Option State). IsMarked (read_found older f) (marks [] (round_lost (read_state older s) o))
        (read_found newer f1) r) (sym some)
        (subst (λ (y : State). IsMarked (read_found older f) (marks [] (lost_state y (read_state newer end)))
        (read_found newer f1) r) longer
        (marked-longer older newer on f (marks [] (lost_state (read_state newer s) (read_state newer end)))
        (read_found newer f1) r
        low.noted (found newer round-ready after.state)))

    module _ (state : OnOk r ((table : List Path) → IsFlowOf table s f → AreInRange table end →
        read_state table here ≡ joined_state (read_state table s) (read_state table end))) where
      pub met-sound : OnOk r (AreSound g body locked (read_heads newer mid) (read_state newer here))
      met-sound =
          on_ok_then r (read_state newer here ≡ round_next (read_state older s)
          (flow g body locked (read_state older s)).next)
          (AreSound g body locked (read_heads newer mid) (read_state newer here)) (met-state state)
          (λ is. subst (AreSound g body locked (read_heads newer mid)) (sym is) resumed-round.1)

      pub met-high : OnOk r (IsHighEnough (Loop body) (read_state newer here))
      met-high =
          on_ok_then r (read_state newer here ≡ round_next (read_state older s)
          (flow g body locked (read_state older s)).next)
          (IsHighEnough (Loop body) (read_state newer here)) (met-state state)
          (λ is. subst (IsHighEnough (Loop body)) (sym is) (high_round g body locked (read_state older s) high))

    pub met-numbers : OnOk r ((table : List Path) → IsFlowOf table s f → AreInRange table end →
        IsFlowOf table here f1) → OnOk r (IsFlowOf newer here f1)
    met-numbers numbers =
        on_ok_then r ((table : List Path) → IsFlowOf table s f → AreInRange table end → IsFlowOf table here f1)
        (IsFlowOf newer here f1) numbers (λ each. each newer round-ready after.state)
