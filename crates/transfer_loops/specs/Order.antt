-- A contract of a public call rests on this: which states say no more than others, and what keeps that.
use Rattle.std.specs.Prelude.{◌≡◌, ℕ, zero, suc, ◌⊎◌, List, [], ◌∷◌, Option, None, Some, length}
use Rattle.owner_domain.specs.declared.value.Value.{Value}
use Rattle.owner_domain.specs.declared.value.Value.TheVariants.{Unnamed}
use Rattle.owner_domain.specs.declared.value.State.{State}
use Rattle.transfer_loops.specs.Rounds.{round_next}

-- the second value is the first, or says nothing
abbrev pub Below : Value → Value → Type 0
Below a b = (a ≡ b) ⊎ (b ≡ Unnamed)

-- the same slot by slot, of lists of one length
abbrev pub BelowAll : List Value → List Value → Type 0
BelowAll [] [] = Unit {0}
BelowAll (a ∷ rest) (b ∷ others) = Below a b × BelowAll rest others
BelowAll _ _ = ⊥

abbrev pub BelowState : State → State → Type 0
BelowState s t = BelowAll s.vars t.vars × BelowAll s.stack t.stack

-- of states at ends, where both ways have one or neither has
abbrev pub BelowNext : Option State → Option State → Type 0
BelowNext None None = Unit {0}
BelowNext (Some s) (Some t) = BelowState s t
BelowNext _ _ = ⊥

abbrev pub IsMonotone : (State → Option State) → Type 0
IsMonotone f = (s t : State) → BelowState s t → BelowNext (f s) (f t)

-- states with as many variables and slots
abbrev pub IsAlike : State → State → Type 0
IsAlike s t = (length s.vars ≡ length t.vars) × (length s.stack ≡ length t.stack)

-- the end, where there is one, has as many variables and slots as the beginning, for beginnings like this
abbrev pub KeepsShape : (State → Option State) → State → Type 0
KeepsShape f s = (x y : State) → IsAlike s x → f x ≡ Some y → IsAlike x y

-- the state behind so many rounds
abbrev pub rounded : (State → Option State) → ℕ → State → State
rounded f zero s = s
rounded f (suc n) s = rounded f n (round_next s (f s))

-- one more round leaves the state unchanged
abbrev pub IsClosed : (State → Option State) → State → Type 0
IsClosed f s = round_next s (f s) ≡ s
