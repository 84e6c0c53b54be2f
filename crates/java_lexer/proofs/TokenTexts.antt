-- The texts of tokens are text.
use Rattle.std.proofs.Common.{◌≡◌, ℕ, suc, ◌+◌, ◌-◌, ◌≤◌, ◌<◌, Bool, true, false, cond, ◌&&◌, ◌||◌, not, List, [], ◌∷◌}
use Rattle.std.proofs.Common.{length, take, drop, get_or, Some, None, inl, inr, ◌⊎◌, refl, ap, arith, eqb-true}
use Rattle.std.proofs.Common.{add-zero, length-drop}
use Rattle.std.specs.Prelude.{◌==◌}
use Rattle.std.specs.Str.{IsAscii, IsUtf8, IsCharBoundary}
use Rattle.std.proofs.lemmas.Str.{IsUtf8-from_ascii, IsUtf8-between, IsCharBoundary-before_ascii}
use Rattle.std.proofs.lemmas.Str.{IsCharBoundary-after_ascii}
use Rattle.std.proofs.lemmas.List.{length-take-le, get_or-take, get_or-drop}
use Rattle.std.proofs.lemmas.Bool.{false≢true, and_parts, or_cases}
use Rattle.racer_base.specs.Name.{is_digit, is_word}
use Rattle.java_lexer.specs.declared.piece.PieceKind.TheVariants.{White, Comment, Token}
use Rattle.java_lexer.specs.declared.token.TokenKind.{TokenKind}
use Rattle.java_lexer.specs.declared.token.TokenKind.TheVariants.{Number, Character, Text, Sign}
use Rattle.java_lexer.specs.Kinds.{is_nothing, is_white_space, word_kind, is_number_byte}
use Rattle.java_lexer.specs.Comments.{is_comment, is_line_end}
use Rattle.java_lexer.specs.Numbers.{is_next, go_on, begins_hex, is_number}
use Rattle.java_lexer.specs.Literals.{ends_quoted, ends_behind_one, is_quoted, is_character, is_text}
use Rattle.java_lexer.specs.Signs.{signs, is_sign}
use Rattle.java_lexer.specs.JavaKinds.{java_kind}
use Rattle.java_lexer.proofs.Ascii.{word_ascii, ascii_more, digit_below, word_byte_below, listed_ascii}

-- ---- numbers and signs

next_below : (hex : Bool) (b c : ℕ) → is_next hex b c ≡ true → c < 128
next_below hex b c h =
    elim (or_cases (is_number_byte c || (c == 46)) _ h) [
      | inl e ↦ elim (or_cases (is_number_byte c) (c == 46) e) [
        | inl number ↦ word_byte_below c (and_parts _ _ number).0
        | inr dot ↦ let is : c ≡ 46 = eqb-true c 46 dot in omega arith
      ]
      | inr e ↦ elim (or_cases (c == 43) (c == 45) (and_parts _ _ e).0) [
        | inl plus ↦ let is : c ≡ 43 = eqb-true c 43 plus in omega arith
        | inr minus ↦ let is : c ≡ 45 = eqb-true c 45 minus in omega arith
      ]
    ]

none_ascii : IsAscii []
none_ascii i = omega arith

go_on_ascii : (hex : Bool) (b : ℕ) (bs : List ℕ) → go_on hex b bs ≡ true → IsAscii bs
go_on_ascii hex b [] h = none_ascii
go_on_ascii hex b (c ∷ cs) h = ascii_more c cs (next_below hex b c (and_parts _ _ h).0)
    (go_on_ascii hex c cs (and_parts _ _ h).1)

number_ascii : (bytes : List ℕ) → is_number bytes ≡ true → IsAscii bytes
number_ascii [] h = absurd (false≢true h)
number_ascii (b ∷ bs) h =
    let below : b < 128 = elim (or_cases (is_digit b) _ (and_parts _ _ h).0) [
      | inl digit ↦ digit_below b digit
      | inr dot ↦ let is : b ≡ 46 = eqb-true b 46 (and_parts _ _ dot).0 in omega arith
    ] in
    ascii_more b bs below (go_on_ascii (begins_hex (b ∷ bs)) b bs (and_parts _ _ h).1)

sign_ascii : (bytes : List ℕ) → is_sign bytes ≡ true → IsAscii bytes
unfolding signs
sign_ascii bytes h = listed_ascii signs bytes refl h

-- ---- literals begin and end with an ASCII byte

LastIs : ℕ → List ℕ → Type 0
LastIs q bs = (k : ℕ) × (length bs ≡ suc k) × (get_or bs k 0 ≡ q)

last_more : (q b : ℕ) (bs : List ℕ) → LastIs q bs → LastIs q (b ∷ bs)
unfolding LastIs
last_more q b bs l = (suc l.0, ap suc l.1, l.2)

last_one : (q b : ℕ) (bs : List ℕ) → b ≡ q → is_nothing bs ≡ true → LastIs q (b ∷ bs)
unfolding LastIs
last_one q b [] e h = (0, refl, e)
last_one q b (c ∷ cs) e h = absurd (false≢true h)

last_case : (q b : ℕ) (bs : List ℕ) (v w : Bool) → (b == q) ≡ v →
    cond v (is_nothing bs) (cond w (ends_behind_one q bs) (not (is_line_end b) && ends_quoted q bs)) ≡ true →
    (ends_quoted q bs ≡ true → LastIs q bs) → (ends_behind_one q bs ≡ true → LastIs q bs) → LastIs q (b ∷ bs)
last_case q b bs true w e h ends behind = last_one q b bs (eqb-true b q e) h
last_case q b bs false true e h ends behind = last_more q b bs (behind h)
last_case q b bs false false e h ends behind = last_more q b bs (ends (and_parts _ _ h).1)

last_both : (q : ℕ) (bs : List ℕ) → (ends_quoted q bs ≡ true → LastIs q bs)
    × (ends_behind_one q bs ≡ true → LastIs q bs)
last_both q [] = (λ h. absurd (false≢true h), λ h. absurd (false≢true h))
last_both q (b ∷ bs) =
    let ih = last_both q bs in (
      λ h. last_case q b bs (b == q) (b == 92) refl h ih.0 ih.1,
      λ h. last_more q b bs
          (ih.0 (and_parts (not (is_line_end b)) (ends_quoted q bs) h).1),
    )

-- the first byte is the quote, and so is the last
quoted_edges : (q : ℕ) (bytes : List ℕ) → is_quoted q bytes ≡ true → (get_or bytes 0 0 ≡ q)
    × ((k : ℕ) × (length bytes ≡ suc k) × (get_or bytes k 0 ≡ q))
unfolding LastIs
quoted_edges q [] h = absurd (false≢true h)
quoted_edges q (b ∷ bs) h = (
  eqb-true b q (and_parts _ _ h).0,
  last_more q b bs
      ((last_both q bs).0 (and_parts (b == q) (ends_quoted q bs) h).1),
)

quoted_utf8 : (q : ℕ) (bytes : List ℕ) (i n : ℕ) → q < 128 → IsUtf8 bytes → i + n ≤ length bytes →
    is_quoted q (take n (drop i bytes)) ≡ true → IsUtf8 (take n (drop i bytes))
quoted_utf8 q bytes i n small utf8 fits h =
    let edges = quoted_edges q (take n (drop i bytes)) h in
    let last = edges.1 in
    let len : n ≡ suc last.0 = omega (
      arith,
      last.1,
      length-take-le n (drop i bytes)
          (omega (arith, length-drop i bytes)),
    ) in
    let front : get_or bytes i 0 < 128 = omega (
      arith,
      edges.0,
      get_or-take n (drop i bytes) 0 0 (omega arith),
      get_or-drop i bytes 0 0,
      ap
          (λ k. get_or bytes k 0) (add-zero i),
    ) in
    let back : get_or bytes (i + last.0) 0 < 128 =
    omega (arith, last.2, get_or-take n (drop i bytes) last.0 0 (omega arith), get_or-drop i bytes last.0 0) in
    let begins : IsCharBoundary bytes i = IsCharBoundary-before_ascii bytes i (omega arith) front in
    let ends : IsCharBoundary bytes (i + last.0 + 1) =
    IsCharBoundary-after_ascii bytes (i + last.0) utf8 (omega arith) back in
    let span : (i + last.0 + 1) - i ≡ n = omega arith in
    rw span at (IsUtf8-between bytes i (i + last.0 + 1) utf8 (omega arith) begins ends)

-- ---- all

token_case : (w c l n x t s : Bool) (word kind : TokenKind) →
    cond w (Some White) (cond c (Some Comment)
    (cond l (Some (Token word)) (cond n (Some (Token Number))
    (cond x (Some (Token Character)) (cond t (Some (Token Text)) (cond s (Some (Token Sign)) None)))))) ≡ Some
    (Token kind) → (l ≡ true) ⊎ ((n ≡ true) ⊎ ((x ≡ true) ⊎ ((t ≡ true) ⊎ (s ≡ true))))
token_case true c l n x t s word kind e = absurd cc
token_case false true l n x t s word kind e = absurd cc
token_case false false true n x t s word kind e = inl refl
token_case false false false true x t s word kind e = inr (inl refl)
token_case false false false false true t s word kind e = inr (inr (inl refl))
token_case false false false false false true s word kind e = inr (inr (inr (inl refl)))
token_case false false false false false false true word kind e = inr (inr (inr (inr refl)))
token_case false false false false false false false word kind e = absurd cc

-- a token of a text in UTF-8 is in UTF-8
pub token_utf8 : (bytes : List ℕ) (i n : ℕ) (kind : TokenKind) → IsUtf8 bytes → i + n ≤ length bytes →
    java_kind (take n (drop i bytes)) ≡ Some (Token kind) → IsUtf8 (take n (drop i bytes))
token_utf8 bytes i n kind utf8 fits h =
    let p = take n (drop i bytes) in
    elim (token_case (is_white_space p) (is_comment p) (is_word p) (is_number p) (is_character p) (is_text p)
    (is_sign p) (word_kind p) kind h) [
      | inl word ↦ IsUtf8-from_ascii p (word_ascii p word)
      | inr (inl number) ↦ IsUtf8-from_ascii p (number_ascii p number)
      | inr (inr (inl character)) ↦ quoted_utf8 39 bytes i n (omega arith) utf8 fits
          (and_parts (is_quoted 39 p) _ character).0
      | inr (inr (inr (inl text))) ↦ quoted_utf8 34 bytes i n (omega arith) utf8 fits
          (and_parts (is_quoted 34 p) _ text).0
      | inr (inr (inr (inr sign))) ↦ IsUtf8-from_ascii p (sign_ascii p sign)
    ]
