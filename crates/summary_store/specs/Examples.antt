-- A contract of a public call rests on this: `woken_in_order`. A setup of three methods, and a history of it.
use Rattle.std.specs.Prelude.{List, [], ◌∷◌}
use Rattle.racer_base.specs.declared.ids.MethodId.{MethodId}
use Rattle.summary_store.specs.declared.machine.Event.{Event}
use Rattle.summary_store.specs.declared.machine.Event.TheVariants.{Take, Park, Publish}
use Rattle.summary_store.specs.Machine.{Setup}

abbrev pub first : MethodId
first = record { 0 = 0 }

abbrev pub second : MethodId
second = record { 0 = 1 }

abbrev pub third : MethodId
third = record { 0 = 2 }

-- two methods call the third, and there are two workers
abbrev pub two_callers : Setup
two_callers = record {
  methods = first ∷ second ∷ third ∷ [];
  rows = (third ∷ []) ∷ (third ∷ []) ∷ [] ∷ [];
  workers = 2;
}

-- the second parks before the first
abbrev pub two_wait : List Event
two_wait = Take 0 first ∷ Take 1 second ∷ Park 1 second third ∷ Park 0 first third ∷ Take 0 third ∷ Publish 0 third ∷ []
