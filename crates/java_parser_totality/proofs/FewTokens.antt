-- A file has no more tokens than bytes.
use Rattle.std.proofs.Common.{◌≡◌, ℕ, zero, suc, ◌-◌, ◌<◌, ◌≤◌, Bool, true, false, cond, List, [], ◌∷◌}
use Rattle.std.proofs.Common.{Option}
use Rattle.std.proofs.Common.{Some, None, Result, Ok, Err, length, drop, length-append, length-drop, refl, sym, ap}
use Rattle.std.proofs.Common.{subst, arith}
use Rattle.std.specs.List.{fold}
use Rattle.std.specs.Str.{is_utf8}
use Rattle.std.specs.Str.Lossy.{utf8_valid_len}
use Rattle.racer_base.specs.declared.ids.FileId.{FileId}
use Rattle.racer_base.specs.Name.{is_listed}
use Rattle.java_lexer.specs.declared.piece.LexicalFault.{LexicalFault}
use Rattle.java_lexer.specs.declared.piece.PieceKind.{PieceKind}
use Rattle.java_lexer.specs.declared.piece.PieceKind.TheVariants as piece
use Rattle.java_lexer.specs.declared.fault.LexFault.{LexFault}
use Rattle.java_lexer.specs.declared.fault.LexFault.TheVariants as answers
use Rattle.java_lexer.specs.declared.token.TokenKind.{TokenKind}
use Rattle.java_lexer.specs.declared.token.TokenKind.TheVariants as kind
use Rattle.java_lexer.specs.declared.token.Token.{Token}
use Rattle.java_lexer.specs.declared.token.Lexed.{Lexed}
use Rattle.java_lexer.specs.declared.spot.Spot.{Spot}
use Rattle.java_lexer.specs.Places.{advance, begin}
use Rattle.java_lexer.specs.Divisions.{Piece, next_piece, and_then, pieces_upto, undivided}
use Rattle.java_lexer.specs.Tokens.{tokens_from}
use Rattle.java_lexer.specs.Signs.{shifts}
use Rattle.java_lexer.specs.JavaKinds.{java_lexis}
use Rattle.java_lexer.specs.JavaTokens.{one_token, angle_tokens, token_of, java_tokens_of, java_tokens, divided_answer}
use Rattle.java_lexer.specs.JavaTokens.{lexed_answer}
use Rattle.java_lexer.proofs.Fronts.{found_front}

module _ (file : FileId) where
  angles : (spot : Spot) (glued : Bool) (bytes : List ℕ) → length (angle_tokens file spot glued bytes) ≡ length bytes
  angles spot glued [] = refl
  angles spot glued (b ∷ bs) = ap suc (angles (advance spot b) true bs)

  sign-few : (spot : Spot) (bytes : List ℕ) (b : Bool) → 0 < length bytes
      → length (cond b (angle_tokens file spot false bytes) (one_token file spot kind.Sign bytes false ∷ []))
      ≤ length bytes
  sign-few spot bytes true some = omega (arith, angles spot false bytes)
  sign-few spot bytes false some = omega (arith, some)

  token-few : (spot : Spot) (k : TokenKind) (bytes : List ℕ) → 0 < length bytes
      → length (token_of file spot k bytes) ≤ length bytes
  token-few spot kind.Sign bytes some = sign-few spot bytes (is_listed shifts bytes) some
  token-few spot _ bytes some = omega (arith, some)

  piece-few : (spot : Spot) (k : PieceKind) (bytes : List ℕ) → 0 < length bytes
      → length (java_tokens_of file spot k bytes) ≤ length bytes
  piece-few spot piece.White bytes some = omega arith
  piece-few spot piece.Comment bytes some = omega arith
  piece-few spot (piece.Token k) bytes some = token-few spot k bytes some

  abbrev tokens : Spot → List Piece → List Token
  tokens spot ps = tokens_from (java_tokens_of file) spot ps

  pieces-few : (n : ℕ) (spot : Spot) (text : List ℕ)
      → length (tokens spot (pieces_upto java_lexis n text)) ≤ length text
  unfolding pieces_upto
  pieces-few zero spot text = omega arith
  pieces-few (suc n) spot text = by (next_piece java_lexis text) refl (λ s t. pieces-few n s t) where
    by : (o : Option Piece) → next_piece java_lexis text ≡ o
        → ((s : Spot) (t : List ℕ) → length (tokens s (pieces_upto java_lexis n t)) ≤ length t)
        → length (tokens spot (and_then o (λ p. pieces_upto java_lexis n (drop (length p.bytes) text)))) ≤ length text
    by None e others = omega arith
    by (Some p) e others =
        let front = (found_front java_lexis text p e).0 in
        let left = drop (length p.bytes) text in
        let long : length left ≡ length text - length p.bytes = length-drop (length p.bytes) text in
        let behind = fold advance spot p.bytes in
        omega (
          arith,
          front.some,
          front.fits,
          long,
          piece-few spot p.kind p.bytes front.some,
          others behind left,
          length-append (java_tokens_of file spot p.kind p.bytes) (tokens behind (pieces_upto java_lexis n left)),
        )

  pub tokens-few : (bytes : List ℕ) → length (java_tokens file bytes) ≤ length bytes
  tokens-few bytes = pieces-few (length bytes) begin bytes

  lexed-is : (bytes : List ℕ) (lexed : Lexed) → lexed_answer file bytes ≡ Ok lexed
      → lexed.tokens ≡ java_tokens file bytes
  lexed-is bytes lexed e = by (is_utf8 bytes) e where
    divided : (o : Option LexicalFault) → divided_answer file bytes o ≡ Ok lexed
        → lexed.tokens ≡ java_tokens file bytes
    divided None f = tokens-of f where
      tokens-of : {l : Lexed} → ◌≡◌ {A = Result Lexed LexFault} (Ok l) (Ok lexed) → lexed.tokens ≡ l.tokens
      tokens-of {l} g = let same : l ≡ lexed = cc in ap (λ (x : Lexed). x.tokens) (sym same)
    divided (Some fault) f = absurd cc

    by : (b : Bool)
        → cond b (divided_answer file bytes (java_lexis.fault_at (undivided java_lexis bytes)))
        (Err (answers.NotUtf8 (utf8_valid_len bytes))) ≡ Ok lexed
        → lexed.tokens ≡ java_tokens file bytes
    by true f = divided (java_lexis.fault_at (undivided java_lexis bytes)) f
    by false f = absurd cc

  pub lexed-few : (bytes : List ℕ) (lexed : Lexed) → lexed_answer file bytes ≡ Ok lexed
      → length lexed.tokens ≤ length bytes
  lexed-few bytes lexed e =
      subst (λ (ts : List Token). length ts ≤ length bytes) (sym (lexed-is bytes lexed e)) (tokens-few bytes)
