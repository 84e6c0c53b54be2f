-- Rounds of a loop that are resumed over numbers.
use Rattle.std.proofs.Common.{◌≡◌, ℕ, Bool, true, false, not, List, Option, Some, sym}
use Rattle.std.proofs.Common.{ap, subst, ◌∙◌}
use Rattle.std.specs.Prelude.{Ok, slice_set}
use Rattle.access_paths.specs.declared.path.Path.{Path}
use Rattle.access_paths.specs.Table.{IsTable, GoesOn}
use Rattle.owner_domain.specs.declared.value.State.{State}
use Rattle.owner_domain.specs.declared.numbered.NumberedState.{NumberedState}
use Rattle.owner_domain.specs.Numbered.{read_state, AreInRange}
use Rattle.owner_domain.specs.Values.{joined_state}
use Rattle.core_code.specs.Tree.{Tree}
use Rattle.access_domain.specs.FlowContext.{FlowContext}
use Rattle.transfer_loops.specs.Rounds.{same_state}
use Rattle.transfer.specs.declared.resuming.Passed.{Passed}
use Rattle.transfer_steps.specs.Numbered.{read_heads, AreHeadsInRange, IsResumedIn}
use Rattle.transfer.specs.Resumes.{IsResumed, IsRound}
use Rattle.owner_domain.specs.Slots.{met_numbers, same_numbered}
use Rattle.transfer_steps.proofs.HeadsRead.{heads-put, heads-put-in, same-state}
use Rattle.owner_domain.proofs.Reading.{met-read, met-in}
use Rattle.transfer_steps.proofs.Readings.{state-longer, state-still}
use Rattle.transfer.proofs.ResumedRounds.{ended_round, joined_round}

abbrev Left : Type 0
Left = Option NumberedState

module _ (g : FlowContext) (body : Tree) (locked : Bool) (k : ℕ) (old new : List Path) (on : GoesOn old new)
    (s x end : NumberedState) (hs later : List Left) (p : Passed) (same : x ≡ s) (low : AreInRange old s)
    (m : IsResumed g body locked k (read_state old x) (read_state new end) (read_heads old hs) (read_heads new later)
    (Ok p)) where
  -- a body that does not go on leaves the state as it was
  pub round-kept : p.goes_on ≡ false →
      IsRound g body locked k (read_state old s) (read_state new s) (read_heads old hs) (read_heads new later)
      (Ok (p.next, false))
  round-kept ends =
      subst (λ (y : State). IsRound g body locked k (read_state old s) y (read_heads old hs) (read_heads new later)
      (Ok (p.next, false))) (sym (state-longer old new on s low))
      (ended_round g body locked k (read_state old s) (read_state old x) (read_state new end) (read_heads old hs)
      (read_heads new later) p ends (ap (read_state old) same) m)

  -- one that goes on is joined with it
  pub round-met : IsTable new → AreInRange new end → (here : NumberedState) (changed : Bool) → p.goes_on ≡ true →
      here ≡ met_numbers s end → changed ≡ not (same_numbered here s) →
      IsRound g body locked k (read_state old s) (read_state new here) (read_heads old hs) (read_heads new later)
      (Ok (p.next, changed))
  round-met once ends here changed goes is test =
      let start = read_state new s in
      let still : AreInRange new s = state-still old new on s low in
      let longer : start ≡ read_state old s = state-longer old new on s low in
      let within : AreInRange new here = subst (AreInRange new) (sym is) (met-in new s end still) in
      joined_round g body locked k (read_state old s) (read_state old x) (read_state new end) (read_state new here)
      (read_heads old hs) (read_heads new later) p changed goes (ap (read_state old) same) m
      (ap (read_state new) is ∙ met-read new once s end still ends
      ∙ ap (λ (y : State). joined_state y (read_state new end)) longer)
      (test ∙ ap not (same-state new once here s within still
      ∙ ap (λ (y : State). same_state (read_state new here) y) longer))

-- ---- where a loop was left

module _ (table : List Path) (hs : List Left) (k : ℕ) (low : AreHeadsInRange table hs) where
  pub loop-put : (s x : NumberedState) → x ≡ s →
      read_heads table (slice_set hs k (Some x)) ≡ slice_set (read_heads table hs) k (Some (read_state table s))
  loop-put s x is =
      heads-put table hs k x
      ∙ ap (λ (y : NumberedState). slice_set (read_heads table hs) k (Some (read_state table y))) is

  pub loop-in : (s x : NumberedState) → IsTable table → AreInRange table s → x ≡ s →
      IsResumedIn table s (slice_set hs k (Some x))
  loop-in s x once within is =
      record {
        once = once;
        state = within;
        left = heads-put-in table hs k x low (subst (AreInRange table) (sym is) within);
      }
