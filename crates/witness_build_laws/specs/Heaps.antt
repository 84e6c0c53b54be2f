-- A contract of a public call rests on this: states and runs that are the same but for the start heap.
use Rattle.std.specs.Prelude.{◌≡◌, Bool, true, List, [], ◌∷◌}
use Rattle.core_semantics.specs.declared.object.StartPath.{StartPath}
use Rattle.core_semantics.specs.Legs.{Ran, Came, Halted}
use Rattle.core_semantics.specs.State.{State, Store}
use Rattle.core_semantics.specs.Steps.{After}

-- which start paths with a field are objects
abbrev pub Heap : Type 0
Heap = StartPath → Bool

-- the same with another heap
abbrev pub store_in : Heap → Store → Store
store_in heap store = record { heap = heap; cells = store.cells; fresh = store.fresh }

abbrev pub after_in : Heap → After → After
after_in heap a = record { store = store_in heap a.store; thread = a.thread }

abbrev pub state_in : Heap → State → State
state_in heap s = record { store = store_in heap s.store; first = s.first; second = s.second }

abbrev pub ran_in : Heap → Ran → Ran
ran_in heap (Came to left) = Came (state_in heap to) left
ran_in heap (Halted halt at steps) = Halted halt (state_in heap at) steps

-- all of these paths are objects
abbrev pub HasAll : Heap → List StartPath → Type 0
HasAll heap [] = Unit {0}
HasAll heap (p ∷ ps) = (heap p ≡ true) × HasAll heap ps
