-- A contract of a public call rests on this: the type of `Session`. The methods of a program, finished, and what is seen
-- of a session.
use Rattle.std.specs.Prelude.{◌≡◌, List, Option, Some, is_some}
use Rattle.std.specs.Arc.{arc_value}
use Rattle.std.specs.Global.{Global}
use Rattle.std.specs.declared.sync.Arc.{Arc}
use Rattle.racer_base.specs.declared.ids.MethodId.{MethodId}
use Rattle.core_code.specs.declared.program.Program.{Program}
use Rattle.core_code.specs.Calls.{is_analysed}
use Rattle.core_code.specs.Core.{Core}
use Rattle.access_domain.specs.declared.summary.Outcome.{Outcome}
use Rattle.access_domain.specs.Outcomes.{AreOutcomes}
use Rattle.transfer.specs.declared.finished.Finished.{Finished}
use Rattle.transfer.specs.Callees.{SharedFinished}
use Rattle.transfer.specs.Tables.{IsFinished, finished_at}

-- just the analysed methods of a program are finished, each at its number
pub record IsWhole (program : Core) (table : List (Option SharedFinished)) : Type 0 where
  pub all : (m : MethodId) → is_some (finished_at table m) ≡ is_analysed program m
  pub right : (m : MethodId) → (f : Finished) → finished_at table m ≡ Some f → IsFinished program m f

-- what a session keeps
pub record IsKeptWhole (program : Core) (table : List (Option SharedFinished))
    (outcomes : List (Option (Arc Outcome Global))) : Type 0 where
  pub whole : IsWhole program table
  pub outcomes_are : AreOutcomes program outcomes

-- what is seen of a session: the program that it stands at, and the methods that were analysed when that came
pub record Standing : Type 0 where
  pub program : Program
  pub again : List MethodId
