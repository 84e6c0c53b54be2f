-- A contract of a public call rests on this: the check of code, by cases on its tree, with the kinds before it or none.
use Rattle.std.specs.Prelude.{ℕ, zero, suc, ◌+◌, Bool, true, false, List, [], ◌++◌, Option, None, Some, option_map, option_and_then}
use Rattle.core_code.specs.Tree.{Tree, Op, Skip, Seq, Choice, Loop, Sync}
use Rattle.core_code.specs.Core.{Core, Method}
use Rattle.typed_core.specs.declared.states.KindState.{KindState}
use Rattle.typed_core.specs.declared.doubts.Doubt.{Doubt}
use Rattle.typed_core.specs.States.{start_of, popped, joined_state, joined_next, size}
use Rattle.typed_core.specs.Needs.{kinds_behind, op_doubts, lock_doubts}

-- the kinds at the end of code or none, and what may fail in it, in reading order
pub record Checked : Type 0 where
  pub next : Option KindState
  pub doubts : List Doubt

-- the kinds behind code that goes on or not
abbrev pub next_of : Bool → KindState → Option KindState
next_of true here = Some here
next_of false here = None

-- one part and then another
abbrev pub after : Checked → (Option KindState → Checked) → Checked
after first rest = record { next = (rest first.next).next; doubts = first.doubts ++ (rest first.next).doubts }

-- either of the two
abbrev pub chosen : Checked → Checked → Checked
chosen left right = record { next = joined_next left.next right.next; doubts = left.doubts ++ right.doubts }

-- the kinds behind a round of a loop, whose body ends with these or none
abbrev pub round_next : KindState → Option KindState → KindState
round_next s None = s
round_next s (Some end) = joined_state s end

-- the kinds before a loop's body after so many rounds, each of which joins them with those at the body's end
abbrev pub rounds : (KindState → Option KindState) → ℕ → KindState → KindState
rounds body zero s = s
rounds body (suc n) s = rounds body n (round_next s (body s))

-- as many rounds as twice the variables and slots of the stack, and one more
abbrev pub rounds_of : KindState → ℕ
rounds_of s = suc (size s + size s)

-- the last kinds before a loop's body; one more round leaves them as they are (`loops_settle`)
abbrev pub settled : (KindState → Option KindState) → KindState → KindState
settled body s = rounds body (rounds_of s) s

-- a loop with this body: what may fail is what may fail with the last kinds
abbrev pub repeated : (Option KindState → Checked) → Option KindState → Checked
repeated body None = body None
repeated body (Some s) =
    let last = settled (λ t. (body (Some t)).next) s in
    record { next = Some last; doubts = (body (Some last)).doubts }

-- a lock, whose object is popped, and then what it stands round
abbrev pub under_lock : List Doubt → Checked → Checked
under_lock doubts body = record { next = body.next; doubts = doubts ++ body.doubts }

abbrev pub check : Core → Method → Tree → Option KindState → Checked
check core method (Op site place op) before =
    record { next = option_and_then (kinds_behind core op) before; doubts = op_doubts core method place op before }
check core method Skip before = record { next = before; doubts = [] }
check core method (Seq first rest) before = after (check core method first before) (check core method rest)
check core method (Choice left right) before =
    chosen (check core method left before) (check core method right before)
check core method (Loop body) before = repeated (check core method body) before
check core method (Sync lock body) before =
    under_lock (lock_doubts lock.place before) (check core method body (option_map (λ s. popped s 1) before))

-- what may fail in a method
abbrev pub doubts_of : Core → Method → List Doubt
doubts_of core method = (check core method method.code (Some (start_of method))).doubts
