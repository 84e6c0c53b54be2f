-- A contract of a public call rests on this: `lex`. The division of a text into longest pieces (JLS
-- 3.2).
use Rattle.std.specs.Prelude.{◌≡◌, ℕ, zero, suc, ◌≤◌, List, [], ◌∷◌, ◌++◌, length, take, drop, Option, Some, None}
use Rattle.std.specs.Prelude.{IsSome}
use Rattle.java_lexer.specs.declared.piece.PieceKind.{PieceKind}
use Rattle.java_lexer.specs.declared.piece.LexicalFault.{LexicalFault}

-- what a piece is, by all of its bytes, and the fault that is named where a text begins
pub record Lexis : Type 0 where
  pub kind_of : List ℕ → Option PieceKind
  pub fault_at : List ℕ → Option LexicalFault

pub record Piece : Type 0 where
  pub bytes : List ℕ
  pub kind : PieceKind

-- the piece in front of a text: no fault is named there, and no longer front is a piece, so that the longest possible
-- translation is used at each step (JLS 3.2)
pub record IsFirst (lexis : Lexis) (piece : Piece) (text : List ℕ) : Type 0 where
  pub is : lexis.kind_of piece.bytes ≡ Some piece.kind
  pub longest : (n : ℕ) → n ≤ length text → IsSome (lexis.kind_of (take n text)) → n ≤ length piece.bytes
  pub faultless : lexis.fault_at text ≡ None

-- the pieces, one after the other, and then the rest are the text; each is the first at its place
abbrev pub Divides : Lexis → List Piece → List ℕ → List ℕ → Type 0
Divides lexis [] text rest = text ≡ rest
Divides lexis (p ∷ ps) text rest =
    (after : List ℕ) × (text ≡ p.bytes ++ after) × IsFirst lexis p text × Divides lexis ps after rest

-- no piece is the first of this text
abbrev pub IsStuck : Lexis → List ℕ → Type 0
IsStuck lexis text = (p : Piece) (after : List ℕ) → text ≡ p.bytes ++ after → IsFirst lexis p text → ⊥

-- a division of the longest front that has one
pub record IsDivision (lexis : Lexis) (pieces : List Piece) (text rest : List ℕ) : Type 0 where
  pub divides : Divides lexis pieces text rest
  pub stuck : IsStuck lexis rest

-- ---- the division as a function: each piece is the longest front that is one

abbrev pub front_piece : List ℕ → ℕ → PieceKind → Piece
front_piece text n kind = record { bytes = take n text; kind = kind }

abbrev pub piece_or : Option PieceKind → List ℕ → ℕ → Option Piece → Option Piece
piece_or None text n other = other
piece_or (Some kind) text n other = Some (front_piece text n kind)

-- the longest front of at most n bytes that is a piece
unfoldable pub longest_piece : Lexis → List ℕ → ℕ → Option Piece
longest_piece lexis text zero = None
longest_piece lexis text (suc n) =
    piece_or (lexis.kind_of (take (suc n) text)) text (suc n) (longest_piece lexis text n)

abbrev pub unless_fault : Option LexicalFault → Option Piece → Option Piece
unless_fault None piece = piece
unless_fault (Some fault) piece = None

-- the piece in front of a text, where there is one and no fault is named
unfoldable pub next_piece : Lexis → List ℕ → Option Piece
next_piece lexis text = unless_fault (lexis.fault_at text) (longest_piece lexis text (length text))

abbrev pub and_then : Option Piece → (Piece → List Piece) → List Piece
and_then None more = []
and_then (Some piece) more = piece ∷ more piece

-- at most n pieces, one after the other
unfoldable pub pieces_upto : Lexis → ℕ → List ℕ → List Piece
pieces_upto lexis zero text = []
pieces_upto lexis (suc n) text =
    and_then (next_piece lexis text) (λ piece. pieces_upto lexis n (drop (length piece.bytes) text))

-- the pieces of the longest divided front; no piece is empty, so a text has at most as many as bytes
abbrev pub pieces : Lexis → List ℕ → List Piece
pieces lexis text = pieces_upto lexis (length text) text

-- the bytes of pieces
abbrev pub joined : List Piece → List ℕ
joined [] = []
joined (p ∷ ps) = p.bytes ++ joined ps

-- what stands behind the longest divided front
abbrev pub undivided : Lexis → List ℕ → List ℕ
undivided lexis text = drop (length (joined (pieces lexis text))) text
