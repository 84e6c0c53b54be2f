-- No public contract rests on this: what the code computes of the front of a text, and tables by the first byte. What a
-- text is read as is said without any of it.
use Rattle.std.specs.Prelude.{◌≡◌, ℕ, suc, ◌<◌, ◌≤◌, Bool, false, ◌&&◌, ◌||◌, List, [], ◌∷◌, length, take, filter}
use Rattle.std.specs.Prelude.{Option, Some, None, Result, Ok, Err, codes, nat_eq, ◌==◌, if◌then◌else◌}
use Rattle.std.specs.Str.{byte}
use Rattle.std.specs.List.{list_any, starts_with}
use Rattle.racer_base.specs.Name.{keywords}
use Rattle.java_lexer.specs.declared.piece.PieceKind.{PieceKind}
use Rattle.java_lexer.specs.declared.piece.LexicalFault.{LexicalFault}
use Rattle.java_lexer.specs.Divisions.{Lexis, IsFirst, front_piece}
use Rattle.java_lexer.specs.Signs.{signs}
use Rattle.java_lexer.specs.Comments.{closes, is_line_end}
use Rattle.java_lexer.specs.Numbers.{is_next}
use Rattle.java_lexer.specs.Literals.{backslash, is_simple, is_octal, is_allowed_unit, behind_u_run}

-- a text with this first byte
abbrev pub begins_with : ℕ → List ℕ → Bool
begins_with first [] = false
begins_with first (b ∷ bs) = b == first

-- the keywords with this first byte
unfoldable pub keywords_with : ℕ → List (List ℕ)
keywords_with first = filter (begins_with first) keywords

-- the signs with this first byte
unfoldable pub signs_with : ℕ → List (List ℕ)
signs_with first = filter (begins_with first) signs

-- a sign with which no longer piece begins
abbrev pub is_mark : ℕ → Bool
is_mark b = list_any (nat_eq b) (codes "(){}[];,@~?")

-- the length of the first of these texts that begins the bytes
abbrev pub first_len : List (List ℕ) → List ℕ → Option ℕ
first_len [] bytes = None
first_len (s ∷ ss) bytes = if starts_with nat_eq bytes s then Some (length s) else first_len ss bytes

abbrev pub one_more : Option ℕ → Option ℕ
one_more None = None
one_more (Some n) = Some (suc n)

-- how many bytes there are up to and with the first `*/`
abbrev pub closed_len : List ℕ → Option ℕ
closed_len [] = None
closed_len (b ∷ bs) = if closes (b ∷ bs) then Some 2 else one_more (closed_len bs)

abbrev mutual
  -- how many bytes there are up to and with the closing quote
  pub quoted_len : ℕ → List ℕ → Option ℕ
  quoted_len quote [] = None
  quoted_len quote (b ∷ bs) =
      if b == quote then Some 1 else
      (if b == backslash then one_more (behind_one_len quote bs) else
      (if is_line_end b then None else one_more (quoted_len quote bs)))

  pub behind_one_len : ℕ → List ℕ → Option ℕ
  behind_one_len quote [] = None
  behind_one_len quote (b ∷ bs) = if is_line_end b then None else one_more (quoted_len quote bs)

-- how many bytes go on a number behind b
abbrev pub number_len : Bool → ℕ → List ℕ → ℕ
number_len hex b [] = 0
number_len hex b (c ∷ cs) = if is_next hex b c then suc (number_len hex c cs) else 0

-- an escape stands behind a backslash
abbrev pub begins_escape : ℕ → List ℕ → Bool
begins_escape quote [] = false
begins_escape quote (b ∷ bs) =
    is_simple b || is_octal b || (b == byte "u" && is_allowed_unit quote (take 4 (behind_u_run bs)))

-- the piece in front of a text has this length and this kind
pub record IsFront (lexis : Lexis) (text : List ℕ) (n : ℕ) (kind : PieceKind) : Type 0 where
  pub some : 0 < n
  pub fits : n ≤ length text
  pub first : IsFirst lexis (front_piece text n kind) text

-- the length and the kind of the piece in front, or the fault that is named there
abbrev pub IsScanned : Lexis → List ℕ → Result (ℕ × PieceKind) LexicalFault → Type 0
IsScanned lexis text (Ok piece) = IsFront lexis text piece.0 piece.1
IsScanned lexis text (Err fault) = lexis.fault_at text ≡ Some fault
