-- The names among the tokens of a file are identifiers.
use Rattle.std.proofs.Common.{◌≡◌, ℕ, Bool, true, false, cond, ◌&&◌, not, List, [], ◌∷◌, Option, None, Some, Result, Ok}
use Rattle.std.proofs.Common.{Err, refl}
use Rattle.std.proofs.Common.{subst}
use Rattle.std.specs.List.{fold}
use Rattle.std.specs.Str.{is_utf8}
use Rattle.std.specs.Str.Lossy.{utf8_valid_len}
use Rattle.racer_base.specs.declared.ids.FileId.{FileId}
use Rattle.racer_base.specs.Name.{is_word, is_listed, keywords, fixed_words}
use Rattle.java_lexer.specs.declared.fault.LexFault.{LexFault}
use Rattle.java_lexer.specs.declared.fault.LexFault.TheVariants as answers
use Rattle.java_lexer.specs.declared.piece.LexicalFault.{LexicalFault}
use Rattle.java_lexer.specs.declared.piece.PieceKind.{PieceKind}
use Rattle.java_lexer.specs.declared.piece.PieceKind.TheVariants.{White, Comment, Token as TokenPiece}
use Rattle.java_lexer.specs.declared.token.TokenKind.{TokenKind}
use Rattle.java_lexer.specs.declared.token.TokenKind.TheVariants.{Keyword, Fixed, Name, Number, Character, Text, Sign}
use Rattle.java_lexer.specs.declared.token.Token as tokens
use Rattle.java_lexer.specs.declared.token.Lexed.{Lexed}
use Rattle.java_lexer.specs.declared.spot.Spot.{Spot}
use Rattle.java_lexer.specs.Places.{begin, advance}
use Rattle.java_lexer.specs.Kinds.{is_white_space, word_kind}
use Rattle.java_lexer.specs.Comments.{is_comment}
use Rattle.java_lexer.specs.Numbers.{is_number}
use Rattle.java_lexer.specs.Literals.{is_character, is_text}
use Rattle.java_lexer.specs.Signs.{is_sign, shifts}
use Rattle.java_lexer.specs.Divisions.{Piece, Divides, pieces, undivided}
use Rattle.java_lexer.specs.Tokens.{tokens_from}
use Rattle.java_lexer.specs.JavaKinds.{java_kind, java_lexis}
use Rattle.java_lexer.specs.JavaTokens.{angle_tokens, one_token, token_of, java_tokens_of, java_tokens, divided_answer}
use Rattle.java_lexer.specs.JavaTokens.{lexed_answer}
use Rattle.java_lexer.proofs.Calm.{nil_kind}
use Rattle.java_lexer.proofs.OneDivision.{pieces_divide}
use Rattle.java_tree.specs.FormedModifiers.{Each}
use Rattle.core_code.specs.Names.{is_identifier}
use Rattle.core_lowering_conditions.proofs.Parts.{each_append}

abbrev pub IsNamed : tokens.Token → Type 0
IsNamed t = t.kind ≡ Name → is_identifier t.text ≡ true

word_case : (white comment word number character text sign : Bool) (kind : TokenKind) →
    cond white (Some White) (cond comment (Some Comment)
    (cond word (Some (TokenPiece kind)) (cond number (Some (TokenPiece Number))
    (cond character (Some (TokenPiece Character))
    (cond text (Some (TokenPiece Text)) (cond sign (Some (TokenPiece Sign)) None)))))) ≡ Some (TokenPiece Name)
    → (word ≡ true) × (kind ≡ Name)
word_case true comment word number character text sign kind e = absurd cc
word_case false true word number character text sign kind e = absurd cc
word_case false false true number character text sign kind e = (refl, cc)
word_case false false false true character text sign kind e = absurd cc
word_case false false false false true text sign kind e = absurd cc
word_case false false false false false true sign kind e = absurd cc
word_case false false false false false false true kind e = absurd cc
word_case false false false false false false false kind e = absurd cc

name_case : (keyword fixed : Bool) → cond keyword Keyword (cond fixed Fixed Name) ≡ Name →
    (not keyword && not fixed) ≡ true
name_case true fixed e = absurd cc
name_case false true e = absurd cc
name_case false false e = refl

three_parts : (a b c : Bool) → a ≡ true → (b && c) ≡ true → (a && b && c) ≡ true
three_parts true b c p q = q
three_parts false b c p q = absurd cc

name_is_identifier : (bytes : List ℕ) → java_kind bytes ≡ Some (TokenPiece Name) → is_identifier bytes ≡ true
name_is_identifier bytes h =
    let word = word_case (is_white_space bytes) (is_comment bytes) (is_word bytes) (is_number bytes)
    (is_character bytes)
    (is_text bytes) (is_sign bytes) (word_kind bytes) h in
    three_parts (is_word bytes) (not (is_listed keywords bytes)) (not (is_listed fixed_words bytes)) word.0
    (name_case (is_listed keywords bytes) (is_listed fixed_words bytes) word.1)

module _ (file : FileId) where
  angles_named : (spot : Spot) (glued : Bool) (bytes : List ℕ) → Each IsNamed (angle_tokens file spot glued bytes)
  angles_named spot glued [] = tt
  angles_named spot glued (b ∷ bs) = (λ e. absurd cc, angles_named (advance spot b) true bs)

  token_named : (spot : Spot) (kind : TokenKind) (bytes : List ℕ) → java_kind bytes ≡ Some (TokenPiece kind)
      → Each IsNamed (token_of file spot kind bytes)
  token_named spot Sign bytes h =
      elim (is_listed shifts bytes) as (λ b. Each IsNamed (cond b (angle_tokens file spot false bytes)
      (one_token file spot Sign bytes false ∷ []))) [
        | true ↦ angles_named spot false bytes
        | false ↦ (λ e. absurd cc, tt)
      ]
  token_named spot Keyword bytes h = (λ e. absurd cc, tt)
  token_named spot Fixed bytes h = (λ e. absurd cc, tt)
  token_named spot Name bytes h = (λ e. name_is_identifier bytes h, tt)
  token_named spot Number bytes h = (λ e. absurd cc, tt)
  token_named spot Character bytes h = (λ e. absurd cc, tt)
  token_named spot Text bytes h = (λ e. absurd cc, tt)

  piece_named : (spot : Spot) (kind : PieceKind) (bytes : List ℕ) → java_kind bytes ≡ Some kind
      → Each IsNamed (java_tokens_of file spot kind bytes)
  piece_named spot White bytes h = tt
  piece_named spot Comment bytes h = tt
  piece_named spot (TokenPiece kind) bytes h = token_named spot kind bytes h

  pieces_named : (spot : Spot) (ps : List Piece) (text rest : List ℕ) → Divides java_lexis ps text rest →
      Each IsNamed (tokens_from (java_tokens_of file) spot ps)
  pieces_named spot [] text rest d = tt
  pieces_named spot (p ∷ ps) text rest d =
      each_append IsNamed (java_tokens_of file spot p.kind p.bytes) _ (piece_named spot p.kind p.bytes d.2.is)
      (pieces_named (fold advance spot p.bytes) ps d.0 rest d.3)

  all_named : (bytes : List ℕ) → Each IsNamed (java_tokens file bytes)
  all_named bytes =
      pieces_named begin (pieces java_lexis bytes) bytes (undivided java_lexis bytes)
      (pieces_divide java_lexis bytes nil_kind).divides

  ok_same : (a b : Lexed) → ◌≡◌ {A = Result Lexed LexFault} (Ok a) (Ok b) → a ≡ b
  ok_same a b e = cc

  not_ok : (fault : LexFault) (lexed : Lexed) → ◌≡◌ {A = Result Lexed LexFault} (Err fault) (Ok lexed) → ⊥
  not_ok fault lexed e = cc

  divided_named : (bytes : List ℕ) (fault : Option LexicalFault) (lexed : Lexed)
      → divided_answer file bytes fault ≡ Ok lexed → Each IsNamed lexed.tokens
  divided_named bytes None lexed e =
      subst (λ (l : Lexed). Each IsNamed l.tokens) (ok_same _ lexed e) (all_named bytes)
  divided_named bytes (Some fault) lexed e = absurd cc

  pub tokens_named : (bytes : List ℕ) (lexed : Lexed) → lexed_answer file bytes ≡ Ok lexed → Each IsNamed lexed.tokens
  tokens_named bytes lexed e =
      elim (is_utf8 bytes) as (λ b. cond b (divided_answer file bytes
      (java_lexis.fault_at (undivided java_lexis bytes)))
      (Err (answers.NotUtf8 (utf8_valid_len bytes))) ≡ Ok lexed → Each IsNamed lexed.tokens) [
        | true ↦ λ f. divided_named bytes (java_lexis.fault_at (undivided java_lexis bytes)) lexed f
        | false ↦ λ f. absurd (not_ok (answers.NotUtf8 (utf8_valid_len bytes)) lexed f)
      ] e
