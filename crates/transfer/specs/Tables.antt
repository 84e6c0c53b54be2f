-- No public contract rests on this: the methods that are finished, each at its number.
use Rattle.std.specs.Prelude.{◌≡◌, List, Option, option_map, slice_get}
use Rattle.std.specs.Option.{IfSome, option_and_then}
use Rattle.std.specs.Arc.{arc_value}
use Rattle.racer_base.specs.declared.ids.MethodId.{MethodId}
use Rattle.core_code.specs.Core.{Core}
use Rattle.core_code.specs.Program.{core}
use Rattle.transfer.specs.declared.finished.Finished.{Finished}
use Rattle.transfer.specs.Callees.{SharedFinished}

-- this method, finished for this program
pub record IsFinished (program : Core) (m : MethodId) (finished : Finished) : Type 0 where
  pub method : finished.method ≡ m
  pub program_is : core (arc_value finished.program) ≡ program

-- the method of a number, where it is finished
abbrev pub finished_at : List (Option SharedFinished) → MethodId → Option Finished
finished_at table m = option_map arc_value
    (option_and_then (λ (place : Option SharedFinished). place) (slice_get table m.0))

-- each method that is finished stands at its number
abbrev pub IsTable : Core → List (Option SharedFinished) → Type 0
IsTable program table = (m : MethodId) → IfSome (finished_at table m) (λ f. IsFinished program m f)
