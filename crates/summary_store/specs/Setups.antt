-- A contract of a public call rests on this: `take_at`, and `run` of racer_run. The demand machine of a program.
use Rattle.std.specs.Prelude.{ℕ, List}
use Rattle.core_code.specs.declared.program.Program.{Program}
use Rattle.core_code.specs.Core.{Core}
use Rattle.core_code.specs.Counting.{analysed_methods}
use Rattle.core_code.specs.Program.{core}
use Rattle.core_code.specs.CalleeRows.{rows_of}
use Rattle.summary_store.specs.declared.machine.Event.{Event}
use Rattle.summary_store.specs.Machine.{Setup, Machine, replay}

-- the demand machine of a program, for a number of workers
abbrev pub setup_of : Core → ℕ → Setup
setup_of core workers = record { methods = analysed_methods core; rows = rows_of core; workers = workers }

-- its state after a history
abbrev pub state_after : Program → ℕ → List Event → Machine
state_after program workers history = replay (setup_of (core program) workers) history
