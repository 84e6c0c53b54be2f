-- No public contract rests on this: finding the division of fields at commas.
use Rattle.std.specs.Prelude.{◌≡◌, ℕ, suc, ◌≤◌, Bool, true, false, ◌&&◌, ◌⊎◌, List, [], ◌∷◌, ◌++◌, Option, Some, None}
use Rattle.std.specs.Prelude.{IsTrue, codes, length, take, map}
use Rattle.racer_base.specs.declared.limits.TheConstants.{MAX_NESTING}
use Rattle.java_lexer.specs.declared.token.Token.{Token}
use Rattle.java_tree.specs.declared.methods.FieldVariable.{FieldVariable}
use Rattle.java_tree.specs.Trees.{Init}
use Rattle.java_tree.specs.FormedModifiers.{Each}
use Rattle.java_parser_grammar.specs.ExpressionReading.{init_at}
use Rattle.java_parser_grammar.specs.TypeReading.{EndsNoTypes}
use Rattle.java_parser_types.specs.Tokens.{spelled}
use Rattle.java_parser_grammar.specs.Tokens.{is_sign_token, is_name}
use Rattle.java_parser_grammar.specs.Pieces.{items_of}
use Rattle.java_parser_grammar.specs.FieldDivisions.{IsInit, IsDivided, AreRead, between_commas}

-- ---- variables

-- what stands behind the name of a variable: nothing, or an `=` and more
abbrev pub is_beginning : List Token → Bool
is_beginning [] = true
is_beginning (e ∷ []) = false
is_beginning (e ∷ t ∷ ts) = is_sign_token (codes "=") e

abbrev pub is_declarator : List Token → Bool
is_declarator [] = false
is_declarator (t ∷ ts) = is_name t && is_beginning ts

abbrev pub are_declarators : List (List Token) → Bool
are_declarators [] = true
are_declarators (p ∷ ps) = is_declarator p && are_declarators ps

-- it begins with nothing, or with what has a tree
abbrev pub HasTree : List Token → Type 0
HasTree [] = ⊥
HasTree (t ∷ []) = IsTrue (is_name t)
HasTree (t ∷ e ∷ ts) = IsTrue (is_name t) × IsTrue (is_sign_token (codes "=") e) × (i : Init) × IsInit ts i

-- a value is read in front, with these tokens behind it
abbrev pub HasValue : List Token → List Token → Type 0
HasValue ts rest = (i : Init) × (init_at MAX_NESTING (map spelled ts) ≡ Some (i, map spelled rest))

-- ---- divisions in which each variable has a tree

abbrev pub NoDivision : List Token → Type 0
NoDivision ts = (pieces : List (List Token)) (vs : List FieldVariable) → AreRead ts pieces vs → ⊥

-- behind a variable stands nothing, or a comma
abbrev pub EndsVariable : List Token → Type 0
EndsVariable [] = Unit {0}
EndsVariable (t ∷ ts) = IsTrue (is_sign_token (codes ",") t)

-- and no type arguments that were begun in the variable end behind it
abbrev pub IsBehind : List Token → Type 0
IsBehind rest = EndsVariable rest × EndsNoTypes (map spelled rest)

-- a variable in front that has a tree has so many tokens
abbrev pub IsOnlySize : List Token → ℕ → Type 0
IsOnlySize ts n = (p rest : List Token) → HasTree p → ts ≡ p ++ rest → IsBehind rest → length p ≡ n

abbrev pub NoVariable : List Token → Type 0
NoVariable ts = (p rest : List Token) → HasTree p → ts ≡ p ++ rest → IsBehind rest → ⊥

pub record IsSized (ts : List Token) (n : ℕ) : Type 0 where
  pub within : n ≤ length ts
  pub tree : HasTree (take n ts)
  pub only : IsOnlySize ts n

-- the tokens end with this piece, or a comma and these stand behind it
abbrev pub IsCut : List Token → List Token → Option (List Token) → Type 0
IsCut ts p None = ts ≡ p
IsCut ts p (Some rest) = (comma : Token) × (ts ≡ p ++ comma ∷ rest) × IsTrue (is_sign_token (codes ",") comma)

-- where what is left has no division, the tokens have none
abbrev pub Passes : List Token → Option (List Token) → Type 0
Passes ts None = Unit {0}
Passes ts (Some rest) = NoDivision rest → NoDivision ts

pub record IsFirst (ts p : List Token) (left : Option (List Token)) : Type 0 where
  pub tree : HasTree p
  pub cut : IsCut ts p left
  pub passes : Passes ts left

-- with what divides the tokens that are left these pieces divide all of them
abbrev pub Divides : List Token → List (List Token) → Option (List Token) → Type 0
Divides ts pieces None = IsDivided pieces ts
Divides ts pieces (Some rest) = (others : List (List Token)) → IsDivided others rest → IsDivided (pieces ++ others) ts

-- how many tokens are left, and one more
abbrev pub left_size : Option (List Token) → ℕ
left_size None = 0
left_size (Some rest) = suc (length rest)

-- ---- divisions at each comma

-- the pieces of what is left
abbrev pub left_pieces : Option (List Token) → List (List Token)
left_pieces None = []
left_pieces (Some rest) = between_commas (items_of rest)

-- ---- both

-- each piece has a tree; or none of the divisions leaves one to each, and these stand between the commas
abbrev pub ArePieces : List Token → List (List Token) → Type 0
ArePieces ts ps = (IsDivided ps ts × Each HasTree ps) ⊎ (NoDivision ts × (ps ≡ between_commas (items_of ts)))
