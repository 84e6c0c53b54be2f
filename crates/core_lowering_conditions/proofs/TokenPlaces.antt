-- The tokens of a file stand in it.
use Rattle.std.proofs.Common.{◌≡◌, ℕ, Bool, true, false, cond, List, [], ◌∷◌, Option, Some, None, Result, Ok, Err}
use Rattle.std.proofs.Common.{refl, subst}
use Rattle.std.specs.Str.{is_utf8}
use Rattle.std.specs.Str.Lossy.{utf8_valid_len}
use Rattle.racer_base.specs.declared.ids.Place.{Place}
use Rattle.racer_base.specs.Name.{is_listed}
use Rattle.java_lexer.specs.declared.fault.LexFault.{LexFault}
use Rattle.java_lexer.specs.declared.fault.LexFault.TheVariants as answers
use Rattle.java_lexer.specs.declared.piece.LexicalFault.{LexicalFault}
use Rattle.java_lexer.specs.declared.piece.PieceKind.{PieceKind}
use Rattle.java_lexer.specs.declared.piece.PieceKind.TheVariants.{White, Comment, Token as TokenPiece}
use Rattle.java_lexer.specs.declared.token.TokenKind.{TokenKind}
use Rattle.java_lexer.specs.declared.token.TokenKind.TheVariants.{Keyword, Fixed, Name, Number, Character, Text, Sign}
use Rattle.java_lexer.specs.declared.token.Token as tokens
use Rattle.java_lexer.specs.declared.token.Lexed.{Lexed}
use Rattle.java_lexer.specs.declared.spot.Spot.{Spot}
use Rattle.std.specs.List.{fold}
use Rattle.java_lexer.specs.Places.{begin, advance}
use Rattle.java_lexer.specs.Divisions.{Piece, pieces, undivided}
use Rattle.java_lexer.specs.Signs.{shifts}
use Rattle.java_lexer.specs.Tokens.{tokens_from}
use Rattle.java_lexer.specs.JavaKinds.{java_lexis}
use Rattle.java_lexer.specs.JavaTokens.{angle_tokens, one_token, token_of, java_tokens_of, divided_answer}
use Rattle.java_lexer.specs.JavaTokens.{lexed_answer}
use Rattle.java_tree.specs.FormedModifiers.{Each}
use Rattle.core_lowering_conditions.proofs.Parts.{each_append}

abbrev pub IsIn : ℕ → Place → Type 0
IsIn n place = place.file.0 ≡ n

abbrev pub StandsIn : ℕ → tokens.Token → Type 0
StandsIn n t = IsIn n t.place

module _ (n : ℕ) where
  angles_in : (spot : Spot) (glued : Bool) (bytes : List ℕ) →
      Each (StandsIn n) (angle_tokens (record { 0 = n }) spot glued bytes)
  angles_in spot glued [] = tt
  angles_in spot glued (b ∷ bs) = (refl, angles_in (advance spot b) true bs)

  token_in : (spot : Spot) (kind : TokenKind) (bytes : List ℕ) →
      Each (StandsIn n) (token_of (record { 0 = n }) spot kind bytes)
  token_in spot Sign bytes =
      elim (is_listed shifts bytes) as (λ b. Each (StandsIn n)
      (cond b (angle_tokens (record { 0 = n }) spot false bytes)
      (one_token (record { 0 = n }) spot Sign bytes false ∷ []))) [
        | true ↦ angles_in spot false bytes
        | false ↦ (refl, tt)
      ]
  token_in spot Keyword bytes = (refl, tt)
  token_in spot Fixed bytes = (refl, tt)
  token_in spot Name bytes = (refl, tt)
  token_in spot Number bytes = (refl, tt)
  token_in spot Character bytes = (refl, tt)
  token_in spot Text bytes = (refl, tt)

  piece_in : (spot : Spot) (kind : PieceKind) (bytes : List ℕ) →
      Each (StandsIn n) (java_tokens_of (record { 0 = n }) spot kind bytes)
  piece_in spot White bytes = tt
  piece_in spot Comment bytes = tt
  piece_in spot (TokenPiece kind) bytes = token_in spot kind bytes

  pieces_in : (spot : Spot) (ps : List Piece) →
      Each (StandsIn n) (tokens_from (java_tokens_of (record { 0 = n })) spot ps)
  pieces_in spot [] = tt
  pieces_in spot (p ∷ ps) =
      each_append (StandsIn n) (java_tokens_of (record { 0 = n }) spot p.kind p.bytes) _ (piece_in spot p.kind p.bytes)
      (pieces_in (fold advance spot p.bytes) ps)

  ok_same : (a b : Lexed) → ◌≡◌ {A = Result Lexed LexFault} (Ok a) (Ok b) → a ≡ b
  ok_same a b e = cc

  not_ok : (fault : LexFault) (lexed : Lexed) → ◌≡◌ {A = Result Lexed LexFault} (Err fault) (Ok lexed) → ⊥
  not_ok fault lexed e = cc

  divided_in : (bytes : List ℕ) (fault : Option LexicalFault) (lexed : Lexed)
      → divided_answer (record { 0 = n }) bytes fault ≡ Ok lexed → Each (StandsIn n) lexed.tokens
  divided_in bytes None lexed e =
      subst (λ (l : Lexed). Each (StandsIn n) l.tokens) (ok_same _ lexed e) (pieces_in begin (pieces java_lexis bytes))
  divided_in bytes (Some fault) lexed e = absurd cc

  -- the tokens of a file of this number stand in it
  pub tokens_in : (bytes : List ℕ) (lexed : Lexed) → lexed_answer (record { 0 = n }) bytes ≡ Ok lexed
      → Each (StandsIn n) lexed.tokens
  tokens_in bytes lexed e =
      elim (is_utf8 bytes) as (λ b. cond b (divided_answer (record { 0 = n }) bytes
      (java_lexis.fault_at (undivided java_lexis bytes)))
      (Err (answers.NotUtf8 (utf8_valid_len bytes))) ≡ Ok lexed → Each (StandsIn n) lexed.tokens) [
        | true ↦ λ f. divided_in bytes (java_lexis.fault_at (undivided java_lexis bytes)) lexed f
        | false ↦ λ f. absurd (not_ok (answers.NotUtf8 (utf8_valid_len bytes)) lexed f)
      ] e
