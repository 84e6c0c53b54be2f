-- A contract of a public call rests on this: the law `ways_end_at_their_access`. Where the way to a record ends in the
-- machine of two threads.
use Rattle.std.specs.Prelude.{◌≡◌, ℕ, List, [], Some, length, nat_lt}
use Rattle.racer_base.specs.declared.ids.MethodId.{MethodId}
use Rattle.racer_base.specs.declared.ids.Place.{Place}
use Rattle.access_paths.specs.Paths.{last_of}
use Rattle.access_domain.specs.declared.access.Access.{Access}
use Rattle.access_domain.specs.Origins.{field_of, touch_of}
use Rattle.core_code.specs.Core.{Core}
use Rattle.core_semantics.specs.declared.answer.Why.{Why}
use Rattle.core_semantics.specs.declared.object.Value.{Value}
use Rattle.core_semantics.specs.Legs.{Ran, Came, Halted, StuckFor}
use Rattle.core_semantics.specs.Runs.{innermost, next_of}
use Rattle.core_semantics.specs.State.{Frame, State, Op, other_of, thread_of}
use Rattle.core_ways_laws.specs.Arrivals.{Arrival, arrival_of}

-- A thread has come just before the access of a record, from a state in which it was at the entry of the record's
-- method with these values. The next operation touches the last field of the record's path in the way of its kind; the
-- thread holds a monitor exactly where the record is locked; and the other thread is as it was. What is stored, and the
-- innermost frame's variables and stack, are what the way leads to.
pub record IsAtAccess (core : Core) (m : MethodId) (i : ℕ) (r : Access) (values : List Value) (s : State) (t : ℕ)
    (to : State) : Type 0 where
  pub other : other_of to t ≡ other_of s t
  pub arrival : Arrival
  pub leads : arrival_of core m i values s.store ≡ Some arrival
  pub store : to.store ≡ arrival.at.store
  pub frame : Frame
  pub innermost : innermost to t ≡ Some frame
  pub vars : frame.vars ≡ arrival.at.vars
  pub stack : frame.stack ≡ arrival.at.stack
  pub place : Place
  pub next : next_of frame ≡ Some (Op place arrival.op)
  pub touches : touch_of arrival.op ≡ Some r.kind
  pub field : field_of arrival.op ≡ last_of r.path.fields
  pub locks : length (thread_of to t).locks ≡ arrival.locks
  pub held : nat_lt 0 arrival.locks ≡ r.locked

-- the run uses all of its turns and comes just before the access, or it is stuck; it is never held, ended or short of
-- turns
abbrev pub EndsAtAccess : Core → MethodId → ℕ → Access → List Value → State → ℕ → Ran → Type 0
EndsAtAccess core m i r values s t (Came to left) = (left ≡ []) × IsAtAccess core m i r values s t to
EndsAtAccess core m i r values s t (Halted halt at steps) = (why : Why) × (halt ≡ StuckFor why)
