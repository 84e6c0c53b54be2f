-- A contract of a public call rests on this: what a walk through code stands on, and what it makes of it.
use Rattle.std.specs.Prelude.{Bool, Result, OnOk}
use Rattle.access_paths.specs.Table.{IsTable, GoesOn}
use Rattle.owner_domain.specs.declared.value.State.{State}
use Rattle.owner_domain.specs.declared.numbered.NumberedState.{NumberedState}
use Rattle.owner_domain.specs.Numbered.{read_state}
use Rattle.access_domain.specs.FlowContext.{FlowContext}
use Rattle.access_domain.specs.Operations.{Effects}
use Rattle.transfer_steps.specs.declared.found.Stop.{Stop}
use Rattle.transfer_steps.specs.declared.notes.Notes.{Notes}
use Rattle.transfer_steps.specs.declared.notes.Walk.{Walk}
use Rattle.transfer_steps.specs.Marks.{IsMarked}
use Rattle.transfer_steps.specs.NotedCalls.{AreFound}
use Rattle.transfer_steps.specs.Numbered.{read_found, read_calls, AreFoundNumbers, AreCallNumbers, IsFlowOf}
use Rattle.transfer_steps.specs.Walks.{IsFlow, AreRoundsDone}

-- each path of the table once, and all numbers that were found are the table's
pub record AreNotes (notes : Notes) : Type 0 where
  pub once : IsTable notes.table
  pub noted : AreFoundNumbers notes.table notes.found

-- the effects are noted
pub record AreNoted {X : Type 0} (e : Effects) (old new : Notes) (r : Result X Stop) : Type 0 where
  pub found : IsMarked (read_found old.table old.found) e (read_found new.table new.found) r
  pub ready : OnOk r (AreNotes new)
  pub table : OnOk r (GoesOn old.table new.table)

-- what is done from this state on has these effects
pub record IsDone (effects : State → Effects) (old : Notes) (start : NumberedState) (new : Notes) (end : NumberedState)
    (r : Result Bool Stop) : Type 0 where
  pub flow : IsFlow (effects (read_state old.table start)) (read_state new.table end) (read_found old.table old.found)
      (read_found new.table new.found) r
  pub numbers : OnOk r (IsFlowOf new.table end new.found)
  pub table : OnOk r (GoesOn old.table new.table)

-- the rounds of a loop with this body are done
pub record AreRounded (body : State → Effects) (old : Notes) (start : NumberedState) (new : Notes) (end : NumberedState)
    (r : Result (Unit {0}) Stop) : Type 0 where
  pub rounds : AreRoundsDone body (read_state old.table start) (read_state new.table end)
      (read_found old.table old.found) (read_found new.table new.found) r
  pub numbers : OnOk r (IsFlowOf new.table end new.found)
  pub table : OnOk r (GoesOn old.table new.table)

-- what the noted calls find is among the notes
pub record AreCallsNoted (g : FlowContext) (walk : Walk) : Type 0 where
  pub called : AreCallNumbers walk.notes.table walk.calls.keys
  pub found : AreFound g (read_calls walk.notes.table walk.calls.keys) (read_found walk.notes.table walk.notes.found)

-- what a walk stands on in this state
pub record IsWalk (g : FlowContext) (walk : Walk) (here : NumberedState) : Type 0 where
  pub numbers : IsFlowOf walk.notes.table here walk.notes.found
  pub calls : AreCallsNoted g walk

-- a walk from this state on through code of these effects
pub record IsWalked (g : FlowContext) (effects : State → Effects) (old : Walk) (start : NumberedState) (new : Walk)
    (end : NumberedState) (r : Result Bool Stop) : Type 0 where
  pub flow : IsFlow (effects (read_state old.notes.table start)) (read_state new.notes.table end)
      (read_found old.notes.table old.notes.found) (read_found new.notes.table new.notes.found) r
  pub ready : OnOk r (IsWalk g new end)
  pub table : OnOk r (GoesOn old.notes.table new.notes.table)
