-- No public contract rests on this: code that is gone through for the state at its end alone.
use Rattle.std.specs.Prelude.{◌≡◌, ℕ, ◌+◌, Bool, not, List, Option, None, Result, Ok, Err, length, slice_index_or}
use Rattle.racer_base.specs.declared.out_of_memory.Memory.{Memory}
use Rattle.owner_domain.specs.declared.value.State.{State}
use Rattle.core_code.specs.Tree.{Tree}
use Rattle.access_domain.specs.FlowContext.{FlowContext}
use Rattle.transfer.specs.declared.resuming.Passed.{Passed}
use Rattle.transfer_steps.specs.Walks.{next_of}
use Rattle.transfer_loops.specs.Rounds.{round_next, same_state}
use Rattle.transfer_loops.specs.Resuming.{Heads, resumed, loops, iterated}

-- the state in which each loop was left, as the code holds them
abbrev pub heads_in : List (Option State) → Heads
heads_in list k = slice_index_or list k None

abbrev pub AreLeft : List (Option State) → List (Option State) → Heads → Type 0
AreLeft old new heads = (heads_in new ≡ heads) × (length new ≡ length old)

-- the end is that of resuming, and the number behind the code's loops is told
abbrev pub IsResumed : FlowContext → Tree → Bool → ℕ → State → State → List (Option State) → List (Option State) →
    Result Passed Memory → Type 0
IsResumed g code locked k s here old new (Ok passed) =
    ((resumed g code locked k (heads_in old) s).0 ≡ next_of passed.goes_on here)
    × (passed.next ≡ k + loops code) × AreLeft old new (resumed g code locked k (heads_in old) s).1
IsResumed g code locked k s here old new (Err e) = Unit {0}

-- one round of a loop whose body's loops have numbers from k on, and whether it changed the state
abbrev pub IsRound : FlowContext → Tree → Bool → ℕ → State → State → List (Option State) → List (Option State) →
    Result (ℕ × Bool) Memory → Type 0
IsRound g body locked k s here old new (Ok behind) =
    (here ≡ round_next s (resumed g body locked k (heads_in old) s).0)
    × (behind.1 ≡ not (same_state here s)) × (behind.0 ≡ k + loops body)
    × AreLeft old new (resumed g body locked k (heads_in old) s).1
IsRound g body locked k s here old new (Err e) = Unit {0}

-- so many rounds at most
abbrev pub AreResumedRounds : FlowContext → Tree → Bool → ℕ → ℕ → State → State → List (Option State) →
    List (Option State) → Result (Unit {0}) Memory → Type 0
AreResumedRounds g body locked k n s here old new (Ok done) =
    (here ≡ (iterated (resumed g body locked k) n (heads_in old) s).0)
    × AreLeft old new (iterated (resumed g body locked k) n (heads_in old) s).1
AreResumedRounds g body locked k n s here old new (Err e) = Unit {0}
