-- Steps of a thread.
use Rattle.std.proofs.Common.{◌≡◌, Bool, true, false, ◌&&◌, cond, nat_lt, List, ◌∷◌}
use Rattle.std.proofs.Common.{ap, subst, ◌∙◌, drop}
use Rattle.core_code.specs.Core.{Core}
use Rattle.core_code.specs.declared.code.Op.{Op as CoreOp}
use Rattle.core_code.specs.declared.code.Op.TheVariants.{Ret}
use Rattle.core_code.specs.Tree.{is_return}
use Rattle.core_semantics.specs.declared.answer.Holder.{Holder}
use Rattle.core_semantics.specs.declared.answer.StepAnswer.{StepAnswer}
use Rattle.core_semantics.specs.declared.answer.Turn.{Turn}
use Rattle.core_semantics.specs.declared.pending.Pending.{Pending}
use Rattle.core_semantics.specs.declared.pending.NextStep.{NextStep}
use Rattle.core_semantics.specs.declared.thread.Running.{Running}
use Rattle.core_semantics.specs.Answers.{IsAnswer}
use Rattle.core_semantics.specs.State.{Todo, Store}
use Rattle.core_semantics.specs.Steps.{Spot, Goes, After, after, frame_step, op_step, operated, returned}
use Rattle.core_semantics.specs.Steps.{todo_step, unlocked, with_todo}
use Rattle.core_semantics.specs.View.{spot_of, step_of, todo_of}
use Rattle.core_semantics.proofs.Answered.{along}

-- an operation that frees a monitor
pub frees : (core : Core) (s : Spot) (rest : List Todo) (op : CoreOp) →
    (is_return op && nat_lt 0 s.frame.locked) ≡ true → operated core s rest op ≡ Goes (after (unlocked s))
frees core s rest op h =
    ap (λ (b : Bool). cond b (Goes (after (unlocked s))) (op_step core (with_todo s rest) op)) h

-- a return that frees none
pub ret_returns : (core : Core) (s : Spot) (rest : List Todo) (op : CoreOp) → op ≡ Ret →
    (is_return op && nat_lt 0 s.frame.locked) ≡ false → operated core s rest op ≡ returned (with_todo s rest)
ret_returns core s rest op is_ret h =
    ap (λ (b : Bool). cond b (Goes (after (unlocked s))) (op_step core (with_todo s rest) op)) h
    ∙ ap (op_step core (with_todo s rest)) is_ret

abbrev pub with_pending : Running → List Pending → Running
with_pending r pending =
    record {
      frame = record { vars = r.frame.vars; stack = r.frame.stack; pending = pending; locked = r.frame.locked };
      callers = r.callers;
    }

-- unfolding changes nothing that is seen
pub settled : (store : Store) (r : Running) (locks : List Holder) (pending : List Pending) →
    todo_of pending ≡ todo_of r.frame.pending → spot_of store (with_pending r pending) locks ≡ spot_of store r locks
settled store r locks pending same = λ i. record (spot_of store r locks) {
  frame = record { vars = r.frame.vars.items; stack = r.frame.stack; todo = same i; locked = r.frame.locked };
}

pub settled_answer : (core : Core) (turn : Turn) (others : List Holder) (store : Store) (r : Running)
    (locks : List Holder) (pending : List Pending) (next : NextStep) (new : After) (answer : StepAnswer) →
    todo_of pending ≡ todo_of r.frame.pending → todo_of pending ≡ step_of next ∷ todo_of (drop 1 pending) →
    IsAnswer (todo_step core turn others (spot_of store (with_pending r pending) locks)
    (step_of next ∷ todo_of (drop 1 pending)))
    (after (spot_of store (with_pending r pending) locks)) new answer →
    IsAnswer (frame_step core turn others (spot_of store r locks)) (after (spot_of store r locks)) new answer
settled_answer core turn others store r locks pending next new answer same is_next h =
    let s : Spot = spot_of store (with_pending r pending) locks in
    let P : Spot → Type 0 = λ t. IsAnswer (frame_step core turn others t) (after t) new answer in
    subst P (settled store r locks pending same)
    (along (todo_step core turn others s (step_of next ∷ todo_of (drop 1 pending))) (frame_step core turn others s)
    (after s) new answer (ap (todo_step core turn others s) is_next) h)
