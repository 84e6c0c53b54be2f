-- A contract of a public call rests on this: `lex`. The tokens of pieces.
use Rattle.std.specs.Prelude.{ℕ, List, [], ◌∷◌, ◌++◌, map}
use Rattle.std.specs.List.{fold, AllPairs}
use Rattle.java_lexer.specs.declared.piece.PieceKind.{PieceKind}
use Rattle.java_lexer.specs.declared.token.Token.{Token}
use Rattle.java_lexer.specs.declared.spot.Spot.{Spot}
use Rattle.java_lexer.specs.Places.{advance, IsNotBehind}
use Rattle.java_lexer.specs.Divisions.{Piece}

-- the tokens of each piece at its place, the first piece being at this one
abbrev pub tokens_from : (Spot → PieceKind → List ℕ → List Token) → Spot → List Piece → List Token
tokens_from tokens_of spot [] = []
tokens_from tokens_of spot (p ∷ ps) =
    tokens_of spot p.kind p.bytes ++ tokens_from tokens_of (fold advance spot p.bytes) ps

-- no token stands before an earlier one
abbrev pub GoForward : List Token → Type 0
GoForward tokens = AllPairs (λ earlier later. IsNotBehind earlier.place later.place) tokens

abbrev pub texts : List Token → List (List ℕ)
texts tokens = map (λ (token : Token). token.text) tokens
