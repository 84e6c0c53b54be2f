-- A contract of a public call rests on this: the law `methods_give_their_values`. What the parts of ways do with the
-- variables and the stack of a frame and with what is stored, by cases on code; threads, turns and monitors play no
-- part.
use Rattle.std.specs.Prelude.{ℕ, ◌-◌, List, [], ◌∷◌, ◌++◌, Option, None, Some, Result, Ok, Err}
use Rattle.std.specs.Prelude.{drop, length, replicate, reverse, slice_index_or, take, if◌then◌else◌}
use Rattle.racer_base.specs.declared.ids.MethodId.{MethodId}
use Rattle.core_code.specs.declared.code.Op.{Op as CoreOp}
use Rattle.core_code.specs.declared.code.Op.TheVariants.{Call, Ret}
use Rattle.core_code.specs.Calls.{method_at, closed_by_rank}
use Rattle.core_code.specs.Core.{Core, Method}
use Rattle.core_code.specs.Tree.{Tree, Op, Skip, Seq, Choice, Loop, Sync, can_end, can_return}
use Rattle.core_ways.specs.Ways.{goes_past}
use Rattle.core_semantics.specs.declared.object.Value.{Value}
use Rattle.core_semantics.specs.declared.object.Value.TheVariants.{Null}
use Rattle.core_semantics.specs.State.{Store}
use Rattle.core_semantics.specs.Steps.{Inner, Next, Goes, Sticks, Waits, Ends, base_of, inner_step, monitor_of}

-- what is stored, and the variables and the stack of the innermost frame, the stack's top first
pub record Point : Type 0 where
  pub store : Store
  pub vars : List Value
  pub stack : List Value

-- behind code, or back from a return with a value
pub data End : Type 0 where
  Behind : (at : Point) → End
  Back : (store : Store) (value : Value) → End

abbrev pub top_value : Point → Value
top_value at = slice_index_or at.stack 0 Null

-- so many values popped
abbrev pub point_popped : Point → ℕ → Point
point_popped at n = record { store = at.store; vars = at.vars; stack = drop n at.stack }

-- the point of a frame that has nothing to do and no locks
abbrev pub inner_of : Point → Inner
inner_of at =
    record { store = at.store; frame = record { vars = at.vars; stack = at.stack; todo = []; locked = 0 } }

abbrev pub point_of : Inner → Point
point_of i = record { store = i.store; vars = i.frame.vars; stack = i.frame.stack }

abbrev pub behind : Next Inner → Option End
behind (Goes i) = Some (Behind (point_of i))
behind (Sticks why) = None
behind (Waits monitor) = None
behind Ends = None

-- what a call of each method with these values gives, or none where it is stuck
abbrev pub Calls : Type 0
Calls = MethodId → List Value → Store → Option (Store × Value)

-- the values that a call passes, in order
abbrev pub values_passed : Point → ℕ → List Value
values_passed at n = reverse (take n at.stack)

-- what comes with a value that is an object
abbrev pub on_ok : {X : Type 0} {E : Type 0} {Y : Type 0} → Result X E → Option Y → Option Y
on_ok (Ok x) onward = onward
on_ok (Err e) onward = None

-- what is entered where the receiver of an instance method is an object
abbrev pub received : {Y : Type 0} → Method → List Value → Option Y → Option Y
received method values onward =
    if method.is_static then onward else on_ok (base_of (slice_index_or values 0 Null)) onward

-- the caller goes on with the value that is returned in place of what it passed
abbrev pub returned_to : Point → ℕ → Option (Store × Value) → Option End
returned_to at n None = None
returned_to at n (Some (store, value)) =
    Some (Behind (record { store = store; vars = at.vars; stack = value ∷ drop n at.stack }))

abbrev pub call_at : Core → Calls → MethodId → ℕ → Point → Option End
call_at core calls m n at =
    elim (method_at core m) [
      | None ↦ None
      | Some method ↦
          received method (values_passed at n) (returned_to at n (calls m (values_passed at n) at.store))
    ]

abbrev pub evaluate_op : Core → Calls → CoreOp → Point → Option End
evaluate_op core calls (Call m n) at = call_at core calls m n at
evaluate_op core calls Ret at = Some (Back at.store (top_value at))
evaluate_op core calls op at = behind (inner_step core (inner_of at) op)

-- what comes behind code, where it does not return
abbrev pub go_on : Option End → (Point → Option End) → Option End
go_on None rest = None
go_on (Some (Behind at)) rest = rest at
go_on (Some (Back store value)) rest = Some (Back store value)

-- where code that is passed along a way leads from a point, or none where it is stuck
abbrev pub evaluate : Core → Calls → Tree → Point → Option End
evaluate core calls (Op site place op) at = evaluate_op core calls op at
evaluate core calls Skip at = Some (Behind at)
evaluate core calls (Seq first rest) at = go_on (evaluate core calls first at) (evaluate core calls rest)
evaluate core calls (Choice left right) at =
    if can_end right then evaluate core calls right at else evaluate core calls left at
evaluate core calls (Loop body) at = Some (Behind at)
evaluate core calls (Sync lock body) at =
    on_ok (monitor_of lock.kind (top_value at)) (evaluate core calls body (point_popped at 1))

-- back from code, or nowhere
abbrev pub only_back : Option End → Option End
only_back None = None
only_back (Some (Behind at)) = None
only_back (Some (Back store value)) = Some (Back store value)

-- where code that is gone through to a return leads from a point, or none where it is stuck
abbrev pub come_back : Core → Calls → Tree → Point → Option End
come_back core calls (Op site place op) at = only_back (evaluate_op core calls op at)
come_back core calls Skip at = None
come_back core calls (Seq first rest) at =
    if goes_past first rest
    then go_on (evaluate core calls first at) (come_back core calls rest)
    else come_back core calls first at
come_back core calls (Choice left right) at =
    if can_return left then come_back core calls left at else come_back core calls right at
come_back core calls (Loop body) at = come_back core calls body at
come_back core calls (Sync lock body) at =
    on_ok (monitor_of lock.kind (top_value at)) (come_back core calls body (point_popped at 1))

-- a method at its entry with these values: its locals are null
abbrev pub entry_point : Method → List Value → Store → Point
entry_point method values store =
    record {
      store = store;
      vars = values ++ replicate (length method.variables - length values) Null;
      stack = [];
    }

abbrev pub value_back : Option End → Option (Store × Value)
value_back None = None
value_back (Some (Behind at)) = None
value_back (Some (Back store value)) = Some (store, value)

abbrev pub call_given : Core → Calls → Calls
call_given core calls m values store =
    elim (method_at core m) [
      | None ↦ None
      | Some method ↦ value_back (come_back core calls method.code (entry_point method values store))
    ]

abbrev pub call_of : Core → Calls
call_of core = closed_by_rank (λ values store. None) (call_given core) core
