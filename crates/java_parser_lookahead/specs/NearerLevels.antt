-- No public contract rests on this: the levels of the binary operators behind the logical ones.
use Rattle.std.specs.Prelude.{ℕ, List, [], ◌∷◌}
use Rattle.java_tree.specs.Operators.{BinaryOperator, Equal, NotEqual, Below, Above, AtMost, AtLeast, ShiftLeft}
use Rattle.java_tree.specs.Operators.{ShiftRight, ShiftRightUnsigned, Plus, Minus, Times, Divide, Remainder}
use Rattle.java_tree.specs.Operators.{level_among}

abbrev pub nearer_operators : List BinaryOperator
nearer_operators =
    Equal ∷ NotEqual ∷ Below ∷ Above ∷ AtMost ∷ AtLeast ∷ ShiftLeft ∷ ShiftRight ∷ ShiftRightUnsigned ∷ Plus ∷ Minus ∷
    Times ∷ Divide ∷ Remainder ∷ []

abbrev pub nearer_level : List ℕ → ℕ
nearer_level text = level_among nearer_operators text
