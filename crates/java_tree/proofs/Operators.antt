-- The texts of the binary operators.
use Rattle.std.proofs.Common.{◌≡◌, ℕ, ◌≤◌, List, [], ◌∷◌, map, IsTrue, inl, inr, refl, sym, subst, arith}
use Rattle.std.specs.Prelude.{nat_eq}
use Rattle.std.specs.Cmp.Lexicographic.{pointwise, bytes_decides}
use Rattle.std.proofs.lemmas.Bool.{false≢true, or_cases}
use Rattle.racer_base.specs.Name.{is_listed}
use Rattle.java_tree.specs.Operators.{BinaryOperator, LogicalOr, binary_operators, text_of, level_of, binary_level}
use Rattle.java_tree.specs.Operators.{is_binary}

-- the level that an operator's text has is the operator's
pub binary_level-text_of : (o : BinaryOperator) → binary_level (text_of o) ≡ level_of o
binary_level-text_of LogicalOr = refl
binary_level-text_of _ = refl

level_of-least : (o : BinaryOperator) → 2 ≤ level_of o
level_of-least LogicalOr = omega arith
level_of-least _ = omega arith

-- a text that is listed is that of one of these operators
listed_operator : (os : List BinaryOperator) (text : List ℕ) → IsTrue (is_listed (map text_of os) text)
    → (o : BinaryOperator) × (text ≡ text_of o)
listed_operator [] text h = absurd (false≢true h)
listed_operator (o ∷ os) text h =
    elim (or_cases (pointwise nat_eq text (text_of o)) (is_listed (map text_of os) text) h) [
      | inl e ↦ (o, (bytes_decides text (text_of o)).0 e)
      | inr e ↦ listed_operator os text e
    ]

-- no text but that of a binary operator has such a level
pub is_binary-level : (text : List ℕ) → IsTrue (is_binary text) → 2 ≤ binary_level text
is_binary-level text h =
    let found : (o : BinaryOperator) × (text ≡ text_of o) = listed_operator binary_operators text h in
    subst (λ (t : List ℕ). 2 ≤ binary_level t) (sym found.1) (rw (binary_level-text_of found.0)
    (level_of-least found.0))
