-- A contract of a public call rests on this: loops in a loop that go on from the state in which they were left.
use Rattle.std.specs.Prelude.{ℕ, zero, suc, ◌+◌, Bool, true, Option, None, Some, nat_eq, if◌then◌else◌}
use Rattle.owner_domain.specs.declared.value.State.{State}
use Rattle.owner_domain.specs.Values.{joined_state}
use Rattle.core_code.specs.Tree.{Tree, Op, Skip, Seq, Choice, Loop, Sync}
use Rattle.access_domain.specs.FlowContext.{FlowContext}
use Rattle.access_domain.specs.Operations.{op_effects, popped}
use Rattle.access_domain.specs.Flow.{flow, joined_next, rounds}
use Rattle.transfer_loops.specs.Rounds.{round_next, same_state, rounds_of}
use Rattle.transfer_loops.specs.Order.{BelowState}

-- how many loops code has
abbrev pub loops : Tree → ℕ
loops (Op site place op) = 0
loops Skip = 0
loops (Seq first rest) = loops first + loops rest
loops (Choice left right) = loops left + loops right
loops (Loop body) = suc (loops body)
loops (Sync lock body) = loops body

-- the state in which each loop was left, by its number in reading order; none where it was not come to yet
abbrev pub Heads : Type 0
Heads = ℕ → Option State

abbrev pub no_heads : Heads
no_heads i = None

abbrev pub put_head : Heads → ℕ → State → Heads
put_head h k x i = if nat_eq i k then Some x else h i

-- the heads behind a loop that was left in this state: where its first round changed nothing the one that there is
-- serves
abbrev pub kept_head : Bool → Heads → ℕ → State → Heads
kept_head settled h k x = if settled then h else put_head h k x

-- the state in which a loop begins that was left in this one or in none
abbrev pub entered : Option State → State → State
entered None s = s
entered (Some x) s = joined_state s x

-- whether a round leaves the state unchanged
abbrev pub is_settled : (Heads → State → Option State × Heads) → Heads → State → Bool
is_settled go h x = same_state (round_next x (go h x).0) x

-- at most so many rounds, up to the first that leaves the state unchanged
abbrev pub iterated : (Heads → State → Option State × Heads) → ℕ → Heads → State → State × Heads
iterated go zero h x = (x, h)
iterated go (suc n) h x =
    if is_settled go h x then (x, (go h x).1) else iterated go n (go h x).1 (round_next x (go h x).0)

-- the state at the end of code whose loops have numbers from k on, and in which each loop was left
abbrev pub resumed : FlowContext → Tree → Bool → ℕ → Heads → State → Option State × Heads
resumed g (Op site place op) locked k h s = ((op_effects g locked site op s).next, h)
resumed g Skip locked k h s = (Some s, h)
resumed g (Seq first rest) locked k h s =
    elim (resumed g first locked k h s).0 [
      | None ↦ (None, (resumed g first locked k h s).1)
      | Some t ↦ resumed g rest locked (k + loops first) (resumed g first locked k h s).1 t
    ]
resumed g (Choice left right) locked k h s = (
  joined_next (resumed g left locked k h s).0
      (resumed g right locked (k + loops left) (resumed g left locked k h s).1 s).0,
  (resumed g right locked (k + loops left) (resumed g left locked k h s).1 s).1,
)
resumed g (Loop body) locked k h s = (
  Some (iterated (resumed g body locked (suc k)) (rounds_of s) h (entered (h k) s)).0,
  kept_head (is_settled (resumed g body locked (suc k)) h (entered (h k) s))
      (iterated (resumed g body locked (suc k)) (rounds_of s) h (entered (h k) s)).1 k
      (iterated (resumed g body locked (suc k)) (rounds_of s) h (entered (h k) s)).0,
)
resumed g (Sync lock body) locked k h s = resumed g body true k h (popped s 1)

abbrev pub OnNext : Option State → (State → Type 0) → Type 0
OnNext None P = Unit {0}
OnNext (Some t) P = P t

-- no loop was left in more than the state that it ends in where code begins in this one
abbrev pub IsSound : FlowContext → Tree → Bool → ℕ → Heads → State → Type 0
IsSound g (Op site place op) locked k h s = Unit {0}
IsSound g Skip locked k h s = Unit {0}
IsSound g (Seq first rest) locked k h s =
    IsSound g first locked k h s
    × OnNext (flow g first locked s).next (λ t. IsSound g rest locked (k + loops first) h t)
IsSound g (Choice left right) locked k h s =
    IsSound g left locked k h s × IsSound g right locked (k + loops left) h s
IsSound g (Loop body) locked k h s =
    OnNext (h k) (λ x. BelowState x (rounds (flow g body locked) (rounds_of s) s).0)
    × IsSound g body locked (suc k) h (rounds (flow g body locked) (rounds_of s) s).0
IsSound g (Sync lock body) locked k h s = IsSound g body true k h (popped s 1)
