-- No public contract rests on this: code whose operations find their values on the stack.
use Rattle.std.specs.Prelude.{◌≡◌, ◌≤◌, Bool, true, List, Option, length, is_some}
use Rattle.owner_domain.specs.declared.value.State.{State}
use Rattle.core_code.specs.Tree.{Tree}
use Rattle.core_code.specs.Facts.{height_after}
use Rattle.access_domain.specs.FlowContext.{FlowContext}
use Rattle.transfer_loops.specs.Resuming.{IsSound, loops}
use Rattle.transfer.specs.Resumes.{heads_in}

-- the stack of this state is high enough for the code
abbrev pub IsHighEnough : Tree → State → Type 0
IsHighEnough code s = is_some (height_after code (length s.stack)) ≡ true

-- the loops of a body were left in states that are no more than those that they end in from this one
abbrev pub AreSound : FlowContext → Tree → Bool → List (Option State) → State → Type 0
AreSound g body locked heads s = IsSound g body locked 0 (heads_in heads) s × (loops body ≤ length heads)
