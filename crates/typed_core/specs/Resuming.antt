-- A contract of a public call rests on this: `loops_may_go_on`. Loops in a loop that go on from the kinds in which they
-- were left.
use Rattle.std.specs.Prelude.{◌≡◌, ℕ, zero, suc, ◌+◌, Bool, true, false, ◌⊎◌, List, [], ◌∷◌, ◌++◌, Option, None, Some}
use Rattle.std.specs.Prelude.{nat_eq, option_and_then, option_map, if◌then◌else◌}
use Rattle.core_code.specs.Tree.{Tree, Op, Skip, Seq, Choice, Loop, Sync}
use Rattle.core_code.specs.Core.{Core, Method}
use Rattle.transfer_loops.specs.Resuming.{loops}
use Rattle.typed_core.specs.declared.kinds.TypedKind.{TypedKind}
use Rattle.typed_core.specs.declared.kinds.TypedKind.TheVariants.{Other, Unset}
use Rattle.typed_core.specs.declared.states.KindState.{KindState}
use Rattle.typed_core.specs.declared.doubts.Doubt.{Doubt}
use Rattle.typed_core.specs.Kinds.{is_reference}
use Rattle.typed_core.specs.States.{popped, joined_state, joined_next, same_state}
use Rattle.typed_core.specs.Needs.{kinds_behind, op_doubts, lock_doubts}
use Rattle.typed_core.specs.Check.{Checked, check, round_next, rounds_of, settled}

-- ---- kinds that say no more than others

-- the second kind is the first, or what it may be joined to: an object and a class say more than `Other`, and each kind
-- says more than `Unset`
abbrev pub Below : TypedKind → TypedKind → Type 0
Below a b = (a ≡ b) ⊎ (((is_reference a ≡ true) × (b ≡ Other)) ⊎ (b ≡ Unset))

-- the same place by place, of lists of one length
abbrev pub BelowAll : List TypedKind → List TypedKind → Type 0
BelowAll [] [] = Unit {0}
BelowAll (a ∷ rest) (b ∷ others) = Below a b × BelowAll rest others
BelowAll _ _ = ⊥

abbrev pub BelowState : KindState → KindState → Type 0
BelowState s t = BelowAll s.vars t.vars × BelowAll s.stack t.stack

-- of kinds at ends, where both ways have some or neither has
abbrev pub BelowNext : Option KindState → Option KindState → Type 0
BelowNext None None = Unit {0}
BelowNext (Some s) (Some t) = BelowState s t
BelowNext _ _ = ⊥

abbrev pub IsMonotone : (KindState → Option KindState) → Type 0
IsMonotone f = (s t : KindState) → BelowState s t → BelowNext (f s) (f t)

-- ---- loops by their numbers

-- the kinds in which each loop was left, by its number in reading order; none where it was not come to yet, or where
-- its first round changed nothing
abbrev pub Heads : Type 0
Heads = ℕ → Option KindState

abbrev pub no_heads : Heads
no_heads i = None

abbrev pub put_head : Heads → ℕ → KindState → Heads
put_head h k x i = if nat_eq i k then Some x else h i

-- the heads behind a loop that was left with these kinds, where a round changed them
abbrev pub kept_head : Bool → Heads → ℕ → KindState → Heads
kept_head changed h k x = if changed then put_head h k x else h

-- the kinds with which a loop begins that was left with these or with none
abbrev pub entered : Option KindState → KindState → KindState
entered None s = s
entered (Some x) s = joined_state s x

-- what is found of code: the kinds at its end or none, those in which its loops were left, and what may fail
pub record Resumed : Type 0 where
  pub next : Option KindState
  pub heads : Heads
  pub doubts : List Doubt

-- the last kinds of a loop, whether a round changed them, and what the last round found
pub record Iterated : Type 0 where
  pub last : KindState
  pub changed : Bool
  pub heads : Heads
  pub doubts : List Doubt

-- whether a round that ends with these kinds leaves those before it as they are
abbrev pub is_settled : KindState → Option KindState → Bool
is_settled x next = same_state (round_next x next) x

-- at most so many rounds, up to the first that leaves the kinds as they are
abbrev pub iterated : (Heads → KindState → Resumed) → ℕ → Heads → KindState → Iterated
iterated go zero h x = record { last = x; changed = true; heads = h; doubts = [] }
iterated go (suc n) h x =
    let round = go h x in
    if is_settled x round.next
    then record { last = x; changed = false; heads = round.heads; doubts = round.doubts }
    else record (iterated go n round.heads (round_next x round.next)) { changed = true }

-- what is found of code whose loops have numbers from k on
abbrev pub resumed : Core → Method → Tree → ℕ → Heads → Option KindState → Resumed
resumed core method (Op site place op) k h before =
    record {
      next = option_and_then (kinds_behind core op) before;
      heads = h;
      doubts = op_doubts core method place op before;
    }
resumed core method Skip k h before = record { next = before; heads = h; doubts = [] }
resumed core method (Seq first rest) k h before =
    let one = resumed core method first k h before in
    let two = resumed core method rest (k + loops first) one.heads one.next in
    record { next = two.next; heads = two.heads; doubts = one.doubts ++ two.doubts }
resumed core method (Choice left right) k h before =
    let one = resumed core method left k h before in
    let two = resumed core method right (k + loops left) one.heads before in
    record { next = joined_next one.next two.next; heads = two.heads; doubts = one.doubts ++ two.doubts }
resumed core method (Loop body) k h None = resumed core method body (suc k) h None
resumed core method (Loop body) k h (Some s) =
    let here = entered (h k) s in
    let all = iterated (λ j x. resumed core method body (suc k) j (Some x)) (rounds_of here) h here in
    record { next = Some all.last; heads = kept_head all.changed all.heads k all.last; doubts = all.doubts }
resumed core method (Sync lock body) k h before =
    let one = resumed core method body k h (option_map (λ s. popped s 1) before) in
    record { next = one.next; heads = one.heads; doubts = lock_doubts lock.place before ++ one.doubts }

-- ---- heads that may be gone on from

abbrev pub OnNext : Option KindState → (KindState → Type 0) → Type 0
OnNext None P = Unit {0}
OnNext (Some t) P = P t

abbrev pub last_of : Core → Method → Tree → KindState → KindState
last_of core method body s = settled (λ t. (check core method body (Some t)).next) s

-- no loop was left with kinds that say less than those with which it ends where code begins with these
abbrev pub IsSound : Core → Method → Tree → ℕ → Heads → KindState → Type 0
IsSound core method (Op site place op) k h s = Unit {0}
IsSound core method Skip k h s = Unit {0}
IsSound core method (Seq first rest) k h s =
    IsSound core method first k h s
    × OnNext (check core method first (Some s)).next (λ t. IsSound core method rest (k + loops first) h t)
IsSound core method (Choice left right) k h s =
    IsSound core method left k h s × IsSound core method right (k + loops left) h s
IsSound core method (Loop body) k h s =
    OnNext (h k) (λ x. BelowState x (last_of core method body s))
    × IsSound core method body (suc k) h (last_of core method body s)
IsSound core method (Sync lock body) k h s = IsSound core method body k h (popped s 1)

-- the same end, and the same places that may fail, as those of the check
pub record IsExact (checked : Checked) (found : Resumed) : Type 0 where
  pub next : found.next ≡ checked.next
  pub doubts : found.doubts ≡ checked.doubts
