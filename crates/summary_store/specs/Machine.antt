-- A contract of a public call rests on this: `every_legal_history`. The demand machine: what workers do with methods,
-- one event at a time.
use Rattle.std.specs.Prelude.{◌≡◌, ℕ, ◌<◌, List, [], ◌∷◌, ◌++◌, cond, ◌==◌, Option, Some, None, slice_get, slice_set}
use Rattle.std.specs.Prelude.{replicate, All, drop}
use Rattle.racer_base.specs.declared.ids.MethodId.{MethodId}
use Rattle.core_code.specs.Counting.{times, IsIn}
use Rattle.core_code.specs.Chains.{row_of}
use Rattle.summary_store.specs.declared.machine.Event.{Event}
use Rattle.summary_store.specs.declared.machine.Event.TheVariants.{Take, Park, Publish, Leave}
use Rattle.summary_store.specs.declared.machine.Hand.{Hand}
use Rattle.summary_store.specs.declared.machine.Hand.TheVariants.{Free, Holds, Gone}

-- the analysed methods in source order, each method's callees, and the number of workers
pub record Setup : Type 0 where
  pub methods : List MethodId
  pub rows : List (List MethodId)
  pub workers : ℕ

-- which methods are idle, ready and done; which are parked, each with the method that it waits for; what each worker
-- holds
pub record Machine : Type 0 where
  pub idle : List MethodId
  pub ready : List MethodId
  pub parked : List (MethodId × MethodId)
  pub hands : List Hand
  pub done : List MethodId

-- at the start all are idle, and no worker has left
abbrev pub start : Setup → Machine
start u = record { idle = u.methods; ready = []; parked = []; hands = replicate u.workers Free; done = [] }

-- the elements that are this method, and the others
abbrev pub only : ℕ → List MethodId → List MethodId
only c [] = []
only c (m ∷ ms) = cond (m.0 == c) (m ∷ only c ms) (only c ms)

abbrev pub without : ℕ → List MethodId → List MethodId
without c [] = []
without c (m ∷ ms) = cond (m.0 == c) (without c ms) (m ∷ without c ms)

-- the methods that are parked on c, in order, and the pairs that are left without them
abbrev pub parked_on : ℕ → List (MethodId × MethodId) → List MethodId
parked_on c [] = []
parked_on c (p ∷ ps) = cond (p.1.0 == c) (p.0 ∷ parked_on c ps) (parked_on c ps)

abbrev pub parked_elsewhere : ℕ → List (MethodId × MethodId) → List (MethodId × MethodId)
parked_elsewhere c [] = []
parked_elsewhere c (p ∷ ps) = cond (p.1.0 == c) (parked_elsewhere c ps) (p ∷ parked_elsewhere c ps)

-- the front of the ready list; or where it is empty, the first idle method
abbrev pub first_of : List MethodId → List MethodId → Option MethodId
first_of (m ∷ ms) idle = Some m
first_of [] (m ∷ ms) = Some m
first_of [] [] = None

abbrev pub next_of : Machine → Option MethodId
next_of s = first_of s.ready s.idle

-- the idle methods after that one is taken
abbrev pub idle_after : List MethodId → List MethodId → List MethodId
idle_after [] idle = drop 1 idle
idle_after (m ∷ ms) idle = idle

-- the effect of an event
abbrev pub step : Machine → Event → Machine
step s (Take w m) =
    record {
      idle = idle_after s.ready s.idle;
      ready = drop 1 s.ready;
      parked = s.parked;
      hands = slice_set s.hands w (Holds m);
      done = s.done;
    }
step s (Park w m c) =
    record {
      idle = without c.0 s.idle;
      ready = s.ready ++ only c.0 s.idle;
      parked = s.parked ++ (m, c) ∷ [];
      hands = slice_set s.hands w Free;
      done = s.done;
    }
step s (Publish w m) =
    record {
      idle = s.idle;
      ready = s.ready ++ parked_on m.0 s.parked;
      parked = parked_elsewhere m.0 s.parked;
      hands = slice_set s.hands w Free;
      done = s.done ++ m ∷ [];
    }
step s (Leave w) =
    record { idle = s.idle; ready = s.ready; parked = s.parked; hands = slice_set s.hands w Gone; done = s.done }

-- a worker that holds nothing and has not left; one that holds m
abbrev pub IsFree : Machine → ℕ → Type 0
IsFree s w = slice_get s.hands w ≡ Some Free

abbrev pub IsHolding : Machine → ℕ → MethodId → Type 0
IsHolding s w m = slice_get s.hands w ≡ Some (Holds m)

abbrev pub IsDone : Machine → MethodId → Type 0
IsDone s m = IsIn m s.done

-- where an event is legal
abbrev pub LegalAt : Setup → Machine → Event → Type 0
LegalAt u s (Take w m) = IsFree s w × (next_of s ≡ Some m)
LegalAt u s (Park w m c) = IsHolding s w m × IsIn c (row_of u.rows m) × (times c.0 s.done ≡ 0)
LegalAt u s (Publish w m) = IsHolding s w m × All (IsDone s) (row_of u.rows m)
LegalAt u s (Leave w) = IsFree s w × (next_of s ≡ None)

-- the state after these events, from a state on
abbrev pub run : Machine → List Event → Machine
run s [] = s
run s (e ∷ es) = run (step s e) es

-- each event is legal where it stands
abbrev pub LegalFrom : Setup → Machine → List Event → Type 0
LegalFrom u s [] = Unit {0}
LegalFrom u s (e ∷ es) = LegalAt u s e × LegalFrom u (step s e) es

abbrev pub replay : Setup → List Event → Machine
replay u history = run (start u) history

abbrev pub Legal : Setup → List Event → Type 0
Legal u history = LegalFrom u (start u) history

abbrev pub HasLeft : Machine → ℕ → Type 0
HasLeft s w = slice_get s.hands w ≡ Some Gone

-- no worker holds a method
abbrev pub NoneHeld : Machine → Type 0
NoneHeld s = (w : ℕ) (m : MethodId) → IsHolding s w m → ⊥

-- every analysed method is done
abbrev pub AllDone : Setup → Machine → Type 0
AllDone u s = (m : MethodId) → IsIn m u.methods → IsDone s m

-- every worker has left
abbrev pub AllGone : Setup → Machine → Type 0
AllGone u s = (w : ℕ) → w < u.workers → HasLeft s w

-- behind the history all is done and all have left
abbrev pub IsComplete : Setup → List Event → Type 0
IsComplete u history = AllDone u (replay u history) × AllGone u (replay u history)
