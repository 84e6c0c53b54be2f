-- A contract of a public call rests on this: two threads at the entries of methods, behind what was stored before.
use Rattle.racer_base.specs.declared.ids.MethodId.{MethodId}
use Rattle.core_code.specs.Core.{Core}
use Rattle.core_semantics.specs.Runs.{thread_at}
use Rattle.core_semantics.specs.State.{State, Store}

abbrev pub begun_behind : Core → MethodId → MethodId → Store → State
begun_behind core m1 m2 store = record { store = store; first = thread_at core 0 m1; second = thread_at core 1 m2 }
