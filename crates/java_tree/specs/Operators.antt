-- A contract of a public call rests on this: the operators and their levels, where an operand of a higher level
-- binds closer (JLS 15.14 to 15.26).
use Rattle.std.specs.Prelude.{ℕ, Bool, List, map, [], ◌∷◌, codes, bytes_eq, if◌then◌else◌}
use Rattle.racer_base.specs.Name.{is_listed}

-- ---- levels

-- of `a = b` (JLS 15.26), and the lowest
abbrev pub assignment_level : ℕ
assignment_level = 0

-- of `a ? b : c` (JLS 15.25)
abbrev pub conditional_level : ℕ
conditional_level = 1

-- of `<` and of `instanceof` (JLS 15.20)
abbrev pub relational_level : ℕ
relational_level = 8

-- of prefix operators and casts (JLS 15.15, 15.16)
abbrev pub unary_level : ℕ
unary_level = 12

-- of `a++` and `a--` (JLS 15.14)
abbrev pub postfix_level : ℕ
postfix_level = 13

-- of what binds closest (JLS 15.8 to 15.12)
abbrev pub primary_level : ℕ
primary_level = 14

-- ---- binary operators

pub data BinaryOperator : Type 0 where
  LogicalOr : BinaryOperator
  LogicalAnd : BinaryOperator
  Or : BinaryOperator
  Xor : BinaryOperator
  And : BinaryOperator
  Equal : BinaryOperator
  NotEqual : BinaryOperator
  Below : BinaryOperator
  Above : BinaryOperator
  AtMost : BinaryOperator
  AtLeast : BinaryOperator
  ShiftLeft : BinaryOperator
  ShiftRight : BinaryOperator
  ShiftRightUnsigned : BinaryOperator
  Plus : BinaryOperator
  Minus : BinaryOperator
  Times : BinaryOperator
  Divide : BinaryOperator
  Remainder : BinaryOperator

abbrev pub binary_operators : List BinaryOperator
binary_operators =
    LogicalOr ∷ LogicalAnd ∷ Or ∷ Xor ∷ And ∷ Equal ∷ NotEqual ∷ Below ∷ Above ∷ AtMost ∷ AtLeast ∷
    ShiftLeft ∷ ShiftRight ∷ ShiftRightUnsigned ∷ Plus ∷ Minus ∷ Times ∷ Divide ∷ Remainder ∷ []

abbrev pub text_of : BinaryOperator → List ℕ
text_of LogicalOr = codes "||"
text_of LogicalAnd = codes "&&"
text_of Or = codes "|"
text_of Xor = codes "^"
text_of And = codes "&"
text_of Equal = codes "=="
text_of NotEqual = codes "!="
text_of Below = codes "<"
text_of Above = codes ">"
text_of AtMost = codes "<="
text_of AtLeast = codes ">="
text_of ShiftLeft = codes "<<"
text_of ShiftRight = codes ">>"
text_of ShiftRightUnsigned = codes ">>>"
text_of Plus = codes "+"
text_of Minus = codes "-"
text_of Times = codes "*"
text_of Divide = codes "/"
text_of Remainder = codes "%"

abbrev pub level_of : BinaryOperator → ℕ
level_of LogicalOr = 2  -- JLS 15.24
level_of LogicalAnd = 3  -- JLS 15.23
level_of Or = 4  -- JLS 15.22
level_of Xor = 5
level_of And = 6
level_of Equal = 7  -- JLS 15.21
level_of NotEqual = 7
level_of Below = relational_level  -- JLS 15.20
level_of Above = relational_level
level_of AtMost = relational_level
level_of AtLeast = relational_level
level_of ShiftLeft = 9  -- JLS 15.19
level_of ShiftRight = 9
level_of ShiftRightUnsigned = 9
level_of Plus = 10  -- JLS 15.18
level_of Minus = 10
level_of Times = 11  -- JLS 15.17
level_of Divide = 11
level_of Remainder = 11

-- whether the text is that of a binary operator (JLS 15.17 to 15.24)
abbrev pub is_binary : List ℕ → Bool
is_binary text = is_listed (map text_of binary_operators) text

-- the level of the first of these operators that has the text, or the lowest level
abbrev pub level_among : List BinaryOperator → List ℕ → ℕ
level_among [] text = assignment_level
level_among (o ∷ os) text = if bytes_eq text (text_of o) then level_of o else level_among os text

-- the level of the binary operator with this text
abbrev pub binary_level : List ℕ → ℕ
binary_level text = level_among binary_operators text

-- ---- other operators

-- JLS 15.26
abbrev pub assignment_operators : List (List ℕ)
assignment_operators =
    codes "=" ∷ codes "+=" ∷ codes "-=" ∷ codes "*=" ∷ codes "/=" ∷ codes "&=" ∷ codes "|=" ∷ codes "^=" ∷
    codes "%=" ∷ codes "<<=" ∷ codes ">>=" ∷ codes ">>>=" ∷ []

abbrev pub is_assignment : List ℕ → Bool
is_assignment text = is_listed assignment_operators text

-- `++` and `--`, which change their operand (JLS 15.14.2, 15.14.3, 15.15.1, 15.15.2)
abbrev pub is_step : List ℕ → Bool
is_step text = is_listed (codes "++" ∷ codes "--" ∷ []) text

-- JLS 15.15
abbrev pub is_prefix : List ℕ → Bool
is_prefix text = is_listed (codes "+" ∷ codes "-" ∷ codes "!" ∷ codes "~" ∷ codes "++" ∷ codes "--" ∷ []) text

-- a prefix operator that could go on with an operand before it (JLS 15.16)
abbrev pub is_signed : List ℕ → Bool
is_signed text = is_listed (codes "+" ∷ codes "-" ∷ codes "++" ∷ codes "--" ∷ []) text
