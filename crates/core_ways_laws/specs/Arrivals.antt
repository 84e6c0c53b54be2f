-- A contract of a public call rests on this: the law `ways_end_at_their_access`. Where the way to a record leads, just
-- before the access.
use Rattle.std.specs.Prelude.{ℕ, suc, List, Option, None, Some, option_map, if◌then◌else◌}
use Rattle.racer_base.specs.declared.ids.MethodId.{MethodId}
use Rattle.racer_base.specs.declared.ids.SiteId.{SiteId}
use Rattle.access_domain.specs.declared.access.Access.{Access}
use Rattle.access_domain.specs.OutcomeRecords.{record_at}
use Rattle.core_code.specs.declared.code.Op.{Op as CoreOp}
use Rattle.core_code.specs.declared.code.Op.TheVariants.{Call}
use Rattle.core_code.specs.Calls.{method_at, closed_by_rank}
use Rattle.core_code.specs.Core.{Core, Method}
use Rattle.core_code.specs.Tree.{Tree, Op, Skip, Seq, Choice, Loop, Sync}
use Rattle.core_semantics.specs.declared.object.Value.{Value}
use Rattle.core_semantics.specs.State.{Store}
use Rattle.core_semantics.specs.Steps.{monitor_of}
use Rattle.core_ways.specs.Ways.{has_site}
use Rattle.core_ways_laws.specs.Values.{Point, End, Behind, Back, Calls, evaluate, received, values_passed, entry_point}
use Rattle.core_ways_laws.specs.Values.{call_of}
use Rattle.core_ways_laws.specs.Values.{on_ok, point_popped, top_value}

-- the operation that comes next, at this point, and how many locks the thread has gone into since its entry
pub record Arrival : Type 0 where
  pub op : CoreOp
  pub at : Point
  pub locks : ℕ

-- what each method leads to, towards its record of an index, from its entry with these values
abbrev pub Arrivals : Type 0
Arrivals = MethodId → ℕ → List Value → Store → Option Arrival

abbrev pub one_lock_more : Arrival → Arrival
one_lock_more arrival = record { op = arrival.op; at = arrival.at; locks = suc arrival.locks }

-- the callee is entered towards its record of this index
abbrev pub enter : Core → Arrivals → ℕ → CoreOp → Point → Option Arrival
enter core arrivals j (Call m n) at =
    elim (method_at core m) [
      | None ↦ None
      | Some method ↦ received method (values_passed at n) (arrivals m j (values_passed at n) at.store)
    ]
enter core arrivals j op at = None

-- the operation at the site: the access itself, or the call that leads to it
abbrev pub arrival_at : Core → Arrivals → Option ℕ → CoreOp → Point → Option Arrival
arrival_at core arrivals None op at = Some (record { op = op; at = at; locks = 0 })
arrival_at core arrivals (Some j) op at = enter core arrivals j op at

abbrev pub behind_first : Option End → (Point → Option Arrival) → Option Arrival
behind_first None rest = None
behind_first (Some (Behind at)) rest = rest at
behind_first (Some (Back store value)) rest = None

-- where code leads towards a site
abbrev pub to : Core → Calls → Arrivals → SiteId → Option ℕ → Tree → Point → Option Arrival
to core calls arrivals site below (Op here place op) at = arrival_at core arrivals below op at
to core calls arrivals site below Skip at = None
to core calls arrivals site below (Seq first rest) at =
    if has_site first site
    then to core calls arrivals site below first at
    else behind_first (evaluate core calls first at) (to core calls arrivals site below rest)
to core calls arrivals site below (Choice left right) at =
    if has_site left site
    then to core calls arrivals site below left at
    else to core calls arrivals site below right at
to core calls arrivals site below (Loop body) at = to core calls arrivals site below body at
to core calls arrivals site below (Sync lock body) at =
    on_ok (monitor_of lock.kind (top_value at))
    (option_map one_lock_more (to core calls arrivals site below body (point_popped at 1)))

abbrev pub to_record : Core → Arrivals → Option Access → Method → List Value → Store → Option Arrival
to_record core arrivals None method values store = None
to_record core arrivals (Some r) method values store =
    to core (call_of core) arrivals r.site r.below method.code (entry_point method values store)

abbrev pub arrival_given : Core → Arrivals → Arrivals
arrival_given core arrivals m i values store =
    elim (method_at core m) [
      | None ↦ None
      | Some method ↦ to_record core arrivals (record_at core m i) method values store
    ]

-- where the way to a record of a method leads, from its entry with these values
abbrev pub arrival_of : Core → Arrivals
arrival_of core = closed_by_rank (λ i values store. None) (arrival_given core) core
