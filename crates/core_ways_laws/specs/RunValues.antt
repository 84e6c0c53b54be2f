-- A contract of a public call rests on this: the law `methods_give_their_values`. Where runs of one thread alone lead,
-- as the values of ways say.
use Rattle.std.specs.Prelude.{◌≡◌, ℕ, List, [], ◌∷◌, ◌++◌, Option, None, Some, drop, length, nat_lt}
use Rattle.racer_base.specs.declared.ids.MethodId.{MethodId}
use Rattle.racer_base.specs.declared.ids.Place.{Place}
use Rattle.racer_base.specs.declared.ids.SiteId.{SiteId}
use Rattle.core_code.specs.declared.code.Op.{Op as CoreOp}
use Rattle.core_code.specs.Calls.{method_at}
use Rattle.core_code.specs.Core.{Core, Method}
use Rattle.core_code.specs.Tree.{Tree}
use Rattle.access_paths.specs.Paths.{last_of}
use Rattle.access_domain.specs.declared.access.Access.{Access}
use Rattle.access_domain.specs.Origins.{field_of, touch_of}
use Rattle.access_domain.specs.OutcomeRecords.{record_at}
use Rattle.core_semantics.specs.declared.answer.Holder.{Holder}
use Rattle.core_semantics.specs.declared.object.Value.{Value}
use Rattle.core_semantics.specs.State.{Frame, Store, Todo, Op, before}
use Rattle.core_semantics.specs.Steps.{After, ended_with}
use Rattle.core_ways.specs.declared.part.WayPart.{WayPart}
use Rattle.core_ways.specs.Alone.{LeadsTo, here}
use Rattle.core_ways.specs.Ways.{Trip, entered, passed, reached, to_return, trip_along, way_of}
use Rattle.core_ways_laws.specs.Values.{Behind, Back, Calls, End, Point, come_back, entry_point, evaluate}
use Rattle.core_ways_laws.specs.Arrivals.{Arrival, arrival_of}

-- a thread whose innermost frame is at a point
abbrev pub at_point : Point → List Todo → ℕ → List Frame → List Holder → After
at_point at todo locked callers locks = here at.store at.vars at.stack todo locked callers locks

-- the caller goes on with this value, or the thread has ended
abbrev pub back_at : List Frame → List Holder → Store → Value → After
back_at [] locks store value = ended_with store locks
back_at (f ∷ callers) locks store value = here store f.vars (value ∷ f.stack) f.todo f.locked callers locks

-- the thread is at this end of code; nowhere where there is none
abbrev pub IsEnd : Option End → List Todo → ℕ → List Frame → List Holder → After → Type 0
IsEnd None todo locked callers locks a = ⊥
IsEnd (Some (Behind at)) todo locked callers locks a = a ≡ at_point at todo locked callers locks
IsEnd (Some (Back store value)) todo locked callers locks a = a ≡ back_at callers (drop locked locks) store value

-- the thread is back from a method with this value
abbrev pub IsBack : Option (Store × Value) → List Frame → List Holder → After → Type 0
IsBack None callers locks a = ⊥
IsBack (Some (store, value)) callers locks a = a ≡ back_at callers locks store value

-- code that is passed leads where it goes
abbrev pub GoesPast : Core → (MethodId → Trip) → Calls → Tree → Type 0
GoesPast core trips calls code =
    (locked : ℕ) (at : Point) (todo : List Todo) (callers : List Frame) (locks : List Holder) →
    LeadsTo core (trip_along trips (passed locked code)).turns (trip_along trips (passed locked code)).steps
    (at_point at (before code todo) locked callers locks)
    (IsEnd (evaluate core calls code at) todo locked callers locks)

-- code that is gone through to a return leads where it comes back
abbrev pub GoesBack : Core → (MethodId → Trip) → Calls → Tree → Type 0
GoesBack core trips calls code =
    (locked : ℕ) (at : Point) (todo : List Todo) (callers : List Frame) (locks : List Holder) →
    LeadsTo core (trip_along trips (to_return locked code)).turns (trip_along trips (to_return locked code)).steps
    (at_point at (before code todo) locked callers locks)
    (IsEnd (come_back core calls code at) todo locked callers locks)

-- a method that is passed comes back with what its call gives
abbrev pub MethodGoes : Core → (MethodId → Trip) → Calls → MethodId → Type 0
MethodGoes core trips calls m =
    (method : Method) → method_at core m ≡ Some method →
    (values : List Value) (store : Store) (callers : List Frame) (locks : List Holder) →
    LeadsTo core (trips m).turns (trips m).steps
    (at_point (entry_point method values store) (before method.code []) 0 callers locks)
    (IsBack (calls m values store) callers locks)

-- the next operation is this one, at its point, and the thread holds as many monitors more as it has gone into locks
pub record IsAtArrival (arrival : Arrival) (locks : List Holder) (a : After) : Type 0 where
  pub place : Place
  pub todo : List Todo
  pub locked : ℕ
  pub callers : List Frame
  pub monitors : List Holder
  pub count : length monitors ≡ arrival.locks
  pub is : a ≡ at_point arrival.at (Op place arrival.op ∷ todo) locked callers (monitors ++ locks)

abbrev pub IsArrival : Option Arrival → List Holder → After → Type 0
IsArrival None locks a = ⊥
IsArrival (Some arrival) locks a = IsAtArrival arrival locks a

-- an operation that is gone towards leads to what comes next there
abbrev pub Arrives : Core → (MethodId → Trip) → (MethodId → ℕ → List WayPart) → Option ℕ → CoreOp →
    (Point → Option Arrival) → Type 0
Arrives core trips ways below op next =
    (place : Place) (locked : ℕ) (at : Point) (todo : List Todo) (callers : List Frame) (locks : List Holder) →
    LeadsTo core (trip_along trips (entered ways below op)).turns (trip_along trips (entered ways below op)).steps
    (at_point at (Op place op ∷ todo) locked callers locks) (IsArrival (next at) locks)

-- code that is gone into towards a site, where this operation is, leads to what comes next there
abbrev pub GoesTo : Core → (MethodId → Trip) → (MethodId → ℕ → List WayPart) → SiteId → Option ℕ → CoreOp → Tree →
    (Point → Option Arrival) → Type 0
GoesTo core trips ways site below op code next =
    (locked : ℕ) (at : Point) (todo : List Todo) (callers : List Frame) (locks : List Holder) →
    LeadsTo core (trip_along trips (reached locked site code ++ entered ways below op)).turns
    (trip_along trips (reached locked site code ++ entered ways below op)).steps
    (at_point at (before code todo) locked callers locks) (IsArrival (next at) locks)

-- a method that is gone into towards a record leads to what comes next there
abbrev pub RecordGoes : Core → MethodId → ℕ → Type 0
RecordGoes core m i =
    (method : Method) (r : Access) → method_at core m ≡ Some method → record_at core m i ≡ Some r →
    (values : List Value) (store : Store) (callers : List Frame) (locks : List Holder) →
    LeadsTo core (way_of core m i).turns (way_of core m i).steps
    (at_point (entry_point method values store) (before method.code []) 0 callers locks)
    (IsArrival (arrival_of core m i values store) locks)

-- what comes next is the access of a record: it touches what the record says, within locks where the record is locked
pub record IsOfRecord (r : Access) (arrival : Arrival) : Type 0 where
  pub touches : touch_of arrival.op ≡ Some r.kind
  pub field : field_of arrival.op ≡ last_of r.path.fields
  pub held : nat_lt 0 arrival.locks ≡ r.locked
