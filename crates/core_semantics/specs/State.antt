-- A contract of a public call rests on this: the state of the machine. Two threads share what is stored; a thread is a
-- list of frames, and code still to do is flat (JLS 17.1, 17.4.1).
use Rattle.std.specs.Prelude.{ℕ, Bool, List, ◌∷◌, Option, nat_eq, if◌then◌else◌}
use Rattle.racer_base.specs.declared.ids.FieldId.{FieldId}
use Rattle.racer_base.specs.declared.ids.Place.{Place}
use Rattle.core_code.specs.declared.code.Op.{Op as CoreOp}
use Rattle.core_code.specs.Tree.{LockAt, Tree}
use Rattle.core_code.specs.Tree as tree
use Rattle.core_semantics.specs.declared.answer.Holder.{Holder}
use Rattle.core_semantics.specs.declared.object.StartPath.{StartPath}
use Rattle.core_semantics.specs.declared.object.Object.{Object}
use Rattle.core_semantics.specs.declared.object.Value.{Value}

-- one step that is still to do: an operation; a choice; a loop; a lock round a body; the innermost lock's end
pub data Todo : Type 0 where
  Op : (place : Place) (op : CoreOp) → Todo
  Choice : (left right : Tree) → Todo
  Loop : (body : Tree) → Todo
  Sync : (lock : LockAt) (body : Tree) → Todo
  Unlock : Todo

-- code before what is still to do: sequences unfold without a step
abbrev pub before : Tree → List Todo → List Todo
before (tree.Op site place op) todo = Op place op ∷ todo
before tree.Skip todo = todo
before (tree.Seq first rest) todo = before first (before rest todo)
before (tree.Choice left right) todo = Choice left right ∷ todo
before (tree.Loop body) todo = Loop body ∷ todo
before (tree.Sync lock body) todo = Sync lock body ∷ todo

-- The stack's top stands first. Of the monitors that its thread holds a frame locked so many, the innermost ones that
-- inner frames did not lock.
pub record Frame : Type 0 where
  pub vars : List Value
  pub stack : List Value
  pub todo : List Todo
  pub locked : ℕ

-- the frames, and the monitors that it holds, one for each time; the innermost stand first
pub record Thread : Type 0 where
  pub frames : List Frame
  pub locks : List Holder

-- which start paths with a field are objects; what was stored in the fields of objects; the number of the next object
-- that is made
pub record Store : Type 0 where
  pub heap : StartPath → Bool
  pub cells : Object → FieldId → Option Value
  pub fresh : ℕ

pub record State : Type 0 where
  pub store : Store
  pub first : Thread
  pub second : Thread

-- the threads are 0 and 1
abbrev pub thread_of : State → ℕ → Thread
thread_of s t = if nat_eq t 0 then s.first else s.second

abbrev pub other_of : State → ℕ → Thread
other_of s t = if nat_eq t 0 then s.second else s.first

-- the state in which this thread is so, and what both share is so
abbrev pub with_thread : State → ℕ → Store → Thread → State
with_thread s t store thread =
    if nat_eq t 0
    then record { store = store; first = thread; second = s.second }
    else record { store = store; first = s.first; second = thread }
