-- A text in which no fault is named is divided whole.
use Rattle.std.proofs.Common.{◌≡◌, ℕ, zero, suc, ◌≤◌, Bool, true, false, cond, List, [], ◌∷◌, length, take, drop}
use Rattle.std.proofs.Common.{Option, Some, None, inl, inr, ◌⊎◌, refl, sym, take-append-drop, arith}
use Rattle.std.specs.Prelude.{IsSome, is_some, codes, nat_eq}
use Rattle.std.specs.List.{starts_with}
use Rattle.std.proofs.lemmas.Bool.{false≢true, or_right}
use Rattle.java_lexer.specs.declared.piece.PieceKind.{PieceKind}
use Rattle.java_lexer.specs.declared.piece.PieceKind.TheVariants.{White, Comment, Token}
use Rattle.java_lexer.specs.declared.piece.LexicalFault.{LexicalFault}
use Rattle.java_lexer.specs.declared.piece.LexicalFault.TheVariants.{BadCharacter, Unclosed, BadLiteral}
use Rattle.java_lexer.specs.declared.token.TokenKind.{TokenKind}
use Rattle.java_lexer.specs.declared.token.TokenKind.TheVariants.{Number, Character, Text, Sign}
use Rattle.java_lexer.specs.Kinds.{is_white_space, word_kind}
use Rattle.racer_base.specs.Name.{is_word}
use Rattle.java_lexer.specs.Comments.{is_line_comment, is_block_comment, is_comment}
use Rattle.java_lexer.specs.Numbers.{is_number}
use Rattle.java_lexer.specs.Literals.{is_quoted, is_character, is_text}
use Rattle.java_lexer.specs.Signs.{is_sign}
use Rattle.java_lexer.specs.Fronts.{some_front}
use Rattle.java_lexer.specs.JavaKinds.{java_kind, is_piece, unless_front, literal_fault, java_fault, java_lexis}
use Rattle.java_lexer.specs.Divisions.{Piece, IsStuck, undivided, front_piece, piece_or, longest_piece, next_piece}
use Rattle.java_lexer.proofs.SomeFronts.{front_found}
use Rattle.java_lexer.proofs.Bytes.{or_less}
use Rattle.java_lexer.proofs.Fronts.{none_some, found_front}
use Rattle.java_lexer.proofs.Calm.{nil_kind}
use Rattle.java_lexer.proofs.OneDivision.{pieces_divide}

-- what passes one of the tests is a piece
piece_case : (w c l n x t s : Bool) (word : TokenKind) → (c ≡ true) ⊎ ((x ≡ true) ⊎ (t ≡ true)) →
    is_some (cond w (Some White) (cond c (Some Comment)
    (cond l (Some (Token word)) (cond n (Some (Token Number))
    (cond x (Some (Token Character)) (cond t (Some (Token Text)) (cond s (Some (Token Sign)) None))))))) ≡ true
piece_case true c l n x t s word h = refl
piece_case false true l n x t s word h = refl
piece_case false false true n x t s word h = refl
piece_case false false false true x t s word h = refl
piece_case false false false false true t s word h = refl
piece_case false false false false false true s word h = refl
piece_case false false false false false false s word (inl e) = absurd (false≢true e)
piece_case false false false false false false s word (inr (inl e)) = absurd (false≢true e)
piece_case false false false false false false s word (inr (inr e)) = absurd (false≢true e)

passes : (bytes : List ℕ) → (is_comment bytes ≡ true) ⊎ ((is_character bytes ≡ true) ⊎ (is_text bytes ≡ true)) →
    is_piece bytes ≡ true
passes bytes h = piece_case (is_white_space bytes) (is_comment bytes) (is_word bytes) (is_number bytes)
    (is_character bytes) (is_text bytes) (is_sign bytes) (word_kind bytes) h

HasPiece : List ℕ → Type 0
HasPiece text = (n : ℕ) × (n ≤ length text) × (is_piece (take n text) ≡ true)

by_front : (is : List ℕ → Bool) (text : List ℕ) (fault : LexicalFault) (v : Bool) → some_front is text ≡ v →
    cond v None (Some fault) ≡ None → ((bytes : List ℕ) → is bytes ≡ true → is_piece bytes ≡ true) → HasPiece text
unfolding HasPiece
by_front is text fault true e h passes = let f = front_found is text e in (f.0, f.2, passes (take f.0 text) f.3)
by_front is text fault false e h passes = absurd (let no : Some fault ≡ None = h in cc)

by_literal : (is_closed is_literal : List ℕ → Bool) (text : List ℕ) (v : Bool) →
    cond v (unless_front is_literal BadLiteral text) (Some Unclosed) ≡ None →
    ((bytes : List ℕ) → is_literal bytes ≡ true → is_piece bytes ≡ true) → HasPiece text
by_literal is_closed is_literal text true h passes =
    by_front is_literal text BadLiteral (some_front is_literal text) refl h passes
by_literal is_closed is_literal text false h passes = absurd cc

module _ (b : ℕ) (bs : List ℕ) where
  has_piece : (block three two one : Bool) →
      cond block (unless_front is_block_comment Unclosed (b ∷ bs))
      (cond three (Some BadLiteral) (cond two (literal_fault (is_quoted 34) is_text (b ∷ bs))
      (cond one (literal_fault (is_quoted 39) is_character (b ∷ bs)) (unless_front is_piece BadCharacter (b ∷ bs)))))
      ≡ None → HasPiece (b ∷ bs)
  has_piece true three two one h = by_front is_block_comment (b ∷ bs) Unclosed
      (some_front is_block_comment (b ∷ bs)) refl h
      (λ bytes e. passes bytes (inl (or_right (is_line_comment bytes) (is_block_comment bytes) e)))
  has_piece false true two one h = absurd cc
  has_piece false false true one h = by_literal (is_quoted 34) is_text (b ∷ bs) (some_front (is_quoted 34) (b ∷ bs)) h
      (λ bytes e. passes bytes (inr (inr e)))
  has_piece false false false true h = by_literal (is_quoted 39) is_character (b ∷ bs)
      (some_front (is_quoted 39) (b ∷ bs)) h (λ bytes e. passes bytes (inr (inl e)))
  has_piece false false false false h = by_front is_piece (b ∷ bs) BadCharacter (some_front is_piece (b ∷ bs)) refl h
      (λ bytes e. e)

-- ---- nothing is left where no fault is named

found_case : (text : List ℕ) (m n : ℕ) (o : Option PieceKind) → java_kind (take (suc m) text) ≡ o → n ≤ suc m →
    IsSome (java_kind (take n text)) → (n ≤ m → IsSome (longest_piece java_lexis text m)) →
    IsSome (piece_or o text (suc m) (longest_piece java_lexis text m))
found_case text m n (Some kind) e le s ih = refl
found_case text m n None e le s ih =
    elim (or_less n (suc m) (omega arith)) [
      | inl same ↦ absurd (none_some (java_kind (take (suc m) text)) e (rw (← same) s))
      | inr less ↦ ih (omega arith)
    ]

some_longest : (text : List ℕ) (m n : ℕ) → n ≤ m → IsSome (java_kind (take n text)) →
    IsSome (longest_piece java_lexis text m)
unfolding longest_piece
some_longest text zero zero le s = absurd (none_some (java_kind []) nil_kind s)
some_longest text zero (suc n) le s = absurd (omega arith)
some_longest text (suc m) n le s = found_case text m n (java_kind (take (suc m) text)) refl le s
    (λ less. some_longest text m n less s)

some_first : (text : List ℕ) → java_fault text ≡ None → HasPiece text → IsSome (next_piece java_lexis text)
unfolding next_piece HasPiece
some_first text e h = rw e (some_longest text (length text) h.0 h.1 h.2)

stuck_case : (text : List ℕ) (o : Option Piece) → next_piece java_lexis text ≡ o → IsSome o → IsStuck java_lexis text →
    ⊥
stuck_case text None e s stuck = false≢true s
stuck_case text (Some p) e s stuck =
    let front = (found_front java_lexis text p e).0 in
    stuck (front_piece text (length p.bytes) p.kind) (drop (length p.bytes) text)
    (sym (take-append-drop (length p.bytes) text)) front.first

stuck_nothing : (rest : List ℕ) → IsStuck java_lexis rest → java_fault rest ≡ None → rest ≡ []
stuck_nothing [] stuck e = refl
stuck_nothing (b ∷ bs) stuck e =
    let piece = has_piece b bs (starts_with nat_eq (b ∷ bs) (codes "/*"))
    (starts_with nat_eq (b ∷ bs) (34 ∷ 34 ∷ 34 ∷ [])) (starts_with nat_eq (b ∷ bs) (34 ∷ []))
    (starts_with nat_eq (b ∷ bs) (39 ∷ [])) e in
    absurd (stuck_case (b ∷ bs) (next_piece java_lexis (b ∷ bs)) refl (some_first (b ∷ bs) e piece) stuck)

pub divided_whole : (text : List ℕ) → java_fault (undivided java_lexis text) ≡ None → undivided java_lexis text ≡ []
divided_whole text e = stuck_nothing (undivided java_lexis text) (pieces_divide java_lexis text nil_kind).stuck e
