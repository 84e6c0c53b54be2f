-- What is noted, and what a walk stands on.
use Rattle.std.specs.Prelude.{Bool, List, Result, Ok, Err, OnOk}
use Rattle.access_paths.specs.declared.path.Path.{Path}
use Rattle.access_paths.specs.Table.{IsTable, GoesOn}
use Rattle.access_paths.proofs.Numbers.{goes_on-same}
use Rattle.owner_domain.specs.declared.value.State.{State}
use Rattle.owner_domain.specs.declared.numbered.NumberedState.{NumberedState}
use Rattle.owner_domain.specs.Numbered.{read_state}
use Rattle.access_domain.specs.FlowContext.{FlowContext}
use Rattle.access_domain.specs.Operations.{Effects}
use Rattle.transfer_steps.specs.declared.found.Stop.{Stop}
use Rattle.transfer_steps.specs.declared.found.Stop.TheVariants.{Memory}
use Rattle.transfer_steps.specs.declared.notes.Notes.{Notes}
use Rattle.transfer_steps.specs.declared.notes.Walk.{Walk}
use Rattle.transfer_steps.specs.declared.numbered_found.NumberedFound.{NumberedFound}
use Rattle.transfer_steps.specs.NotedCalls.{AreFound}
use Rattle.transfer_steps.specs.Noting.{AreNotes, AreNoted, IsDone, AreRounded, IsWalk, IsWalked}
use Rattle.transfer_steps.specs.Numbered.{read_found, read_calls, AreFoundNumbers, AreCallNumbers, IsFlowOf}
use Rattle.transfer_steps.specs.Walks.{IsFlow}
use Rattle.transfer_steps.proofs.Longer.{on_ok_then}
use Rattle.transfer_steps.proofs.Longer.{always}

pub notes-ready : {X E : Type 0} (r : Result X E) (table : List Path) (found : NumberedFound) → IsTable table →
    OnOk r (AreFoundNumbers table found) → OnOk r (AreNotes (record { table = table; found = found }))
notes-ready (Ok x) table found once noted = record { once = once; noted = noted }
notes-ready (Err e) table found once noted = tt

pub walk-ready : {X E : Type 0} (r : Result X E) (g : FlowContext) (walk : Walk) (here : NumberedState) →
    OnOk r (IsFlowOf walk.notes.table here walk.notes.found) →
    OnOk r (AreCallNumbers walk.notes.table walk.calls.keys) →
    OnOk r (AreFound g (read_calls walk.notes.table walk.calls.keys) (read_found walk.notes.table walk.notes.found)) →
    OnOk r (IsWalk g walk here)
walk-ready (Ok x) g walk here numbers called found =
    record { numbers = numbers; calls = record { called = called; found = found } }
walk-ready (Err e) g walk here numbers called found = tt

-- ---- where memory is refused nothing is said

pub noted-refused : {X : Type 0} (e : Effects) (old new : Notes) → AreNoted {X = X} e old new (Err Memory)
noted-refused e old new = record { found = tt; ready = tt; table = tt }

pub done-refused : (effects : State → Effects) (old : Notes) (start : NumberedState) (new : Notes)
    (end : NumberedState) → IsDone effects old start new end (Err Memory)
done-refused effects old start new end = record { flow = tt; numbers = tt; table = tt }

pub rounded-refused : (body : State → Effects) (old : Notes) (start : NumberedState) (new : Notes)
    (end : NumberedState) → AreRounded body old start new end (Err Memory)
rounded-refused body old start new end = record { rounds = (tt, tt); numbers = tt; table = tt }

pub walked-refused : (g : FlowContext) (effects : State → Effects) (old : Walk) (start : NumberedState) (new : Walk)
    (end : NumberedState) → IsWalked g effects old start new end (Err Memory)
walked-refused g effects old start new end = record { flow = tt; ready = tt; table = tt }

-- ---- what is done over any table is done over this one

pub found-done : (effects : State → Effects) (table : List Path) (start end : NumberedState)
    (old new : NumberedFound) (r : Result Bool Stop) → IsFlowOf table start old →
    ((t : List Path) → IsFlowOf t start old → IsFlow (effects (read_state t start)) (read_state t end)
    (read_found t old) (read_found t new) r) →
    OnOk r ((t : List Path) → IsFlowOf t start old → IsFlowOf t end new) →
    IsDone effects (record { table = table; found = old }) start (record { table = table; found = new }) end r
found-done effects table start end old new r low flow numbers =
    record {
      flow = flow table low;
      numbers =
          on_ok_then r ((t : List Path) → IsFlowOf t start old → IsFlowOf t end new) (IsFlowOf table end new) numbers
          (λ each. each table low);
      table = always r (GoesOn table table) (goes_on-same table);
    }
