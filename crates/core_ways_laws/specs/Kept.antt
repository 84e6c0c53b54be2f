-- No public contract rests on this: that code, calls and ways keep the invariant.
use Rattle.std.specs.Prelude.{◌≡◌, ℕ, true, List, Option, None, Some, map, slice_get}
use Rattle.racer_base.specs.declared.ids.MethodId.{MethodId}
use Rattle.owner_domain.specs.declared.value.State.{State}
use Rattle.owner_domain.specs.declared.value.Value.{Value as Called}
use Rattle.access_domain.specs.declared.access.Access.{Access}
use Rattle.access_domain.specs.Findings.{Findings, Known, Whole}
use Rattle.access_domain.specs.Operations.{Effects}
use Rattle.access_domain.specs.Summaries.{start_of}
use Rattle.core_code.specs.Calls.{method_at, taken_by}
use Rattle.core_code.specs.Core.{Core, Method}
use Rattle.core_code.specs.KindCheck.{begins_with}
use Rattle.core_code.specs.Kinds.{StackKind, kind_of}
use Rattle.core_semantics.specs.declared.object.Value.{Value}
use Rattle.core_semantics.specs.State.{Store}
use Rattle.core_ways_laws.specs.Arrivals.{Arrival}
use Rattle.core_ways_laws.specs.Values.{Point, End, Behind, Back, entry_point}
use Rattle.core_ways_laws.specs.Meets.{DoesMeet}
use Rattle.core_ways_laws.specs.Names.{Naming, name_of}
use Rattle.core_ways_laws.specs.Places.{AreHushed, ArePlaces, IsFrame, IsPlace, IsStore}
use Rattle.core_ways_laws.specs.Quiet.{Quietness}

-- behind code the frame is as these effects say
pub record IsBehind (core : Core) (quiet : Quietness core) (n : Naming) (method : Method) (kinds : List StackKind)
    (e : Effects) (at : Point) : Type 0 where
  pub store : IsStore core quiet at.store
  pub state : State
  pub next : e.next ≡ Some state
  pub frame : IsFrame core quiet n method kinds state at

-- back from code with a value that is called as these effects say
pub record IsReturned (core : Core) (quiet : Quietness core) (n : Naming) (method : Method) (e : Effects)
    (stored : Store) (value : Value) : Type 0 where
  pub store : IsStore core quiet stored
  pub called : Called
  pub result : e.result ≡ Some called
  pub place : IsPlace core quiet (kind_of method.result) (name_of n called) value

-- where code leads, if it is not stuck, the invariant holds of these effects
abbrev pub IsKept : (core : Core) → Quietness core → Naming → Method → List StackKind → Effects → Option End → Type 0
IsKept core quiet n method kinds e None = Unit {0}
IsKept core quiet n method kinds e (Some (Behind at)) = IsBehind core quiet n method kinds e at
IsKept core quiet n method kinds e (Some (Back store value)) = IsReturned core quiet n method e store value

-- what a call gives back, if it is not stuck, is called by this value in the names of the callee
abbrev pub IsGiven : (core : Core) → Quietness core → Naming → StackKind → Called → Option (Store × Value) → Type 0
IsGiven core quiet n kind called None = Unit {0}
IsGiven core quiet n kind called (Some (store, value)) =
    IsStore core quiet store × IsPlace core quiet kind (name_of n called) value

-- the values with which a method is entered are called by what it starts with
abbrev pub IsEntered : (core : Core) → Quietness core → Naming → Method → List Value → Store → Type 0
IsEntered core quiet n method values store =
    ArePlaces core quiet n (map kind_of method.variables) (start_of method).vars
    (entry_point method values store).vars

-- a call of a method of which this is known, and which gives this, keeps the invariant
pub record IsGood (core : Core) (quiet : Quietness core) (m : MethodId) (known : Option Known)
    (call : List Value → Store → Option (Store × Value)) : Type 0 where
  pub method : Method
  pub there : method_at core m ≡ Some method
  pub begins : begins_with (taken_by method) method.variables ≡ true
  pub what : Known
  pub is : known ≡ Some what
  pub keeps : (found : Findings) → what ≡ Whole found → (n : Naming) (values : List Value) (store : Store) →
      IsEntered core quiet n method values store → IsStore core quiet store → AreHushed core quiet n found.wobbly →
      IsGiven core quiet n (kind_of method.result) found.result (call values store)

-- where a way to a record leads, if it is not stuck, the access is that of the record
abbrev pub IsMet : (core : Core) → Quietness core → Naming → Access → Option Arrival → Type 0
IsMet core quiet n r None = Unit {0}
IsMet core quiet n r (Some arrival) = IsStore core quiet arrival.at.store × DoesMeet core quiet n r arrival

-- each way to a record of a method, of which this is known, leads to the record's access
pub record AreMet (core : Core) (quiet : Quietness core) (m : MethodId) (known : Option Known)
    (arrivals : ℕ → List Value → Store → Option Arrival) : Type 0 where
  pub method : Method
  pub there : method_at core m ≡ Some method
  pub begins : begins_with (taken_by method) method.variables ≡ true
  pub meets : (found : Findings) → known ≡ Some (Whole found) → (n : Naming) (values : List Value) (store : Store) →
      IsEntered core quiet n method values store → IsStore core quiet store → AreHushed core quiet n found.wobbly →
      (j : ℕ) (r : Access) → slice_get found.records j ≡ Some r → IsMet core quiet n r (arrivals j values store)
