-- A contract of a public call rests on this: the flow of code, by cases on its tree.
use Rattle.std.specs.Prelude.{ℕ, zero, suc, ◌+◌, Bool, true, ◌||◌, List, [], ◌++◌, Option, None, Some, length}
use Rattle.access_paths.specs.declared.path.Path.{Path}
use Rattle.owner_domain.specs.declared.value.Value.{Value}
use Rattle.owner_domain.specs.declared.value.State.{State}
use Rattle.owner_domain.specs.Values.{joined, lost, joined_state, lost_state}
use Rattle.core_code.specs.Tree.{Tree, Op, Skip, Seq, Choice, Loop, Sync}
use Rattle.access_domain.specs.FlowContext.{FlowContext}
use Rattle.access_domain.specs.Operations.{Effects, goes_on, popped, op_effects}

-- the returned values of two parts join, and names may be lost
abbrev pub joined_result : Option Value → Option Value → Option Value
joined_result None b = b
joined_result (Some a) None = Some a
joined_result (Some a) (Some b) = Some (joined a b)

abbrev pub lost_result : Option Value → Option Value → List Path
lost_result None b = []
lost_result (Some a) None = []
lost_result (Some a) (Some b) = lost a b

-- the state where two ways meet; a way without a state at its end takes no part
abbrev pub joined_next : Option State → Option State → Option State
joined_next None b = b
joined_next (Some a) None = Some a
joined_next (Some a) (Some b) = Some (joined_state a b)

abbrev pub lost_next : Option State → Option State → List Path
lost_next None b = []
lost_next (Some a) None = []
lost_next (Some a) (Some b) = lost_state a b

-- one part and then another
abbrev pub both : Effects → Effects → Effects
both first rest =
    record {
      next = rest.next;
      records = first.records ++ rest.records;
      wobbly = first.wobbly ++ rest.wobbly ++ lost_result first.result rest.result;
      result = joined_result first.result rest.result;
      large = first.large || rest.large;
    }

-- the rest is done from the state at the end of the first part, and gives nothing where there is none
abbrev pub after : Effects → (State → Effects) → Effects
after first rest = elim first.next [ None ↦ first | Some s ↦ both first (rest s) ]

-- either of the two, the left's records first
abbrev pub chosen : Effects → Effects → Effects
chosen left right =
    record {
      next = joined_next left.next right.next;
      records = left.records ++ right.records;
      wobbly = left.wobbly ++ right.wobbly ++ lost_next left.next right.next ++ lost_result left.result right.result;
      result = joined_result left.result right.result;
      large = left.large || right.large;
    }

-- the state before a loop's body and the paths that joins have lost, after so many rounds: each joins the state with
-- that at the body's end
abbrev pub rounds : (State → Effects) → ℕ → State → State × List Path
rounds body zero s = (s, [])
rounds body (suc n) s =
    elim (body s).next [
      | None ↦ rounds body n s
      | Some end ↦
          ((rounds body n (joined_state s end)).0, lost_state s end ++ (rounds body n (joined_state s end)).1)
    ]

-- what the body gives under the last state, and the paths lost in all rounds
abbrev pub repeated : State × List Path → (State → Effects) → Effects
repeated last body =
    record {
      next = Some last.0;
      records = (body last.0).records;
      wobbly = last.1 ++ (body last.0).wobbly;
      result = (body last.0).result;
      large = (body last.0).large;
    }

-- as many rounds as there are variables and slots of the stack, and one more
abbrev pub looped : (State → Effects) → State → Effects
looped body s = repeated (rounds body (length s.vars + length s.stack + 1) s) body

abbrev pub flow : FlowContext → Tree → Bool → State → Effects
flow g (Op site place op) locked s = op_effects g locked site op s
flow g Skip locked s = goes_on s
flow g (Seq first rest) locked s = after (flow g first locked s) (flow g rest locked)
flow g (Choice left right) locked s = chosen (flow g left locked s) (flow g right locked s)
flow g (Loop body) locked s = looped (flow g body locked) s
flow g (Sync lock body) locked s = flow g body true (popped s 1)
