-- A contract of a public call rests on this: the rounds of a loop, and states that a round leaves as they were.
use Rattle.std.specs.Prelude.{◌≡◌, ℕ, ◌+◌, Bool, true, false, ◌&&◌, List, [], ◌∷◌, Option, None, Some, length}
use Rattle.access_paths.specs.declared.path.Path.{Path}
use Rattle.owner_domain.specs.declared.value.Value.{Value}
use Rattle.owner_domain.specs.declared.value.State.{State}
use Rattle.owner_domain.specs.Values.{joined_state, lost_state, same_value}
use Rattle.access_domain.specs.Operations.{Effects}

-- the state behind a round of a loop, whose body ends in this state or none, and the paths that are lost there
abbrev pub round_next : State → Option State → State
round_next s None = s
round_next s (Some end) = joined_state s end

abbrev pub round_lost : State → Option State → List Path
round_lost s None = []
round_lost s (Some end) = lost_state s end

-- as many rounds as there are variables and slots of the stack, and one more
abbrev pub rounds_of : State → ℕ
rounds_of s = length s.vars + length s.stack + 1

-- one more round of this body leaves the state as it was
abbrev pub IsSettled : (State → Effects) → State → Type 0
IsSettled body s = round_next s (body s).next ≡ s

abbrev pub same_values : List Value → List Value → Bool
same_values [] [] = true
same_values (a ∷ rest) (b ∷ others) = same_value a b && same_values rest others
same_values _ _ = false

abbrev pub same_state : State → State → Bool
same_state s t = same_values s.vars t.vars && same_values s.stack t.stack
