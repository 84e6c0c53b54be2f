-- A contract of a public call rests on this: `analyse`. The methods that a method calls, as they are handed in.
use Rattle.std.specs.Prelude.{◌≡◌, true, List, [], ◌∷◌, Option, None, Some, is_some, nat_eq, if◌then◌else◌, All}
use Rattle.std.specs.List.{list_all}
use Rattle.std.specs.Arc.{arc_value}
use Rattle.std.specs.Global.{Global}
use Rattle.std.specs.declared.sync.Arc.{Arc}
use Rattle.racer_base.specs.declared.ids.MethodId.{MethodId}
use Rattle.core_code.specs.Calls.{calls_of}
use Rattle.core_code.specs.Core.{Core}
use Rattle.core_code.specs.Program.{core}
use Rattle.access_domain.specs.declared.summary.Outcome.{Outcome}
use Rattle.transfer.specs.declared.finished.Finished.{Finished}

abbrev pub SharedFinished : Type 0
SharedFinished = Arc Finished Global

-- the outcome of a method, the first of several
abbrev pub outcome_in : List SharedFinished → MethodId → Option Outcome
outcome_in [] m = None
outcome_in (f ∷ fs) m =
    if nat_eq (arc_value f).method.0 m.0 then Some (arc_value (arc_value f).outcome) else outcome_in fs m

-- each method that the code of m calls is among these, and all are finished for this program
pub record AreCallees (program : Core) (m : MethodId) (finished : List SharedFinished) : Type 0 where
  pub same_program : All (λ (f : SharedFinished). core (arc_value (arc_value f).program) ≡ program) finished
  pub are_there : list_all (λ (n : MethodId). is_some (outcome_in finished n)) (calls_of program m) ≡ true
