-- No public contract rests on this: a leg that is run, as far as it comes.
use Rattle.std.specs.Prelude.{◌≡◌, ℕ, [], ◌∷◌, Option, None, Some}
use Rattle.core_semantics.specs.Legs.{Ran, Came, Halted}
use Rattle.core_semantics.specs.State.{State}

-- all steps were made and no turn is left, or after how many the leg stops
pub data Replayed : Type 0 where
  Through : (to : State) → Replayed
  Stops : (steps : ℕ) → Replayed

-- of a leg of so many steps
abbrev pub replayed : ℕ → Ran → Replayed
replayed most (Came to []) = Through to
replayed most (Came to (turn ∷ turns)) = Stops most
replayed most (Halted halt at steps) = Stops steps

-- what is told of it, and the state behind it
abbrev pub IsReplayed : Replayed → Option ℕ → State → Type 0
IsReplayed (Through to) None s = to ≡ s
IsReplayed (Through to) (Some n) s = ⊥
IsReplayed (Stops n) None s = ⊥
IsReplayed (Stops n) (Some m) s = m ≡ n
