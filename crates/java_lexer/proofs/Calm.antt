-- The piece in front of a text that begins with white space, a letter or a digit.
use Rattle.std.proofs.Common.{◌≡◌, ℕ, suc, ◌+◌, ◌≤◌, ◌<◌, Bool, true, false, not, cond, ◌&&◌, List, [], ◌∷◌, length}
use Rattle.std.proofs.Common.{take, Some, None, refl, sym, ◌∙◌, arith, one-add}
use Rattle.std.specs.Prelude.{nat_eq, ◌==◌}
use Rattle.std.specs.List.{prefix_len, list_all}
use Rattle.racer_base.specs.Name.{is_letter, is_digit, is_word_byte, is_listed}
use Rattle.java_lexer.specs.declared.piece.PieceKind.{PieceKind}
use Rattle.java_lexer.specs.declared.piece.PieceKind.TheVariants.{White, Token}
use Rattle.java_lexer.specs.declared.piece.LexicalFault.TheVariants.{BadCharacter}
use Rattle.java_lexer.specs.declared.token.TokenKind.TheVariants.{Number}
use Rattle.java_lexer.specs.Kinds.{is_nothing, is_white, word_kind}
use Rattle.java_lexer.specs.Numbers.{begins_hex, go_on}
use Rattle.java_lexer.specs.Signs.{signs, is_sign}
use Rattle.java_lexer.specs.Scanning.{signs_with, number_len}
use Rattle.java_lexer.specs.JavaKinds.{java_kind, is_piece, unless_front, java_fault, java_lexis}
use Rattle.java_lexer.specs.Scanning.{IsFront}
use Rattle.java_lexer.proofs.Bytes.{never_both, all_below}
use Rattle.java_lexer.proofs.Ascii.{letter_below, digit_below, white_below}
use Rattle.java_lexer.proofs.ByFirst.{run_front, single_front, tested_front}
use Rattle.java_lexer.proofs.SomeFronts.{front_is}
use Rattle.java_lexer.proofs.SignGroups.{is_start, is_start_only}
use Rattle.java_lexer.proofs.SignRuns.{signs_listed}
use Rattle.java_lexer.proofs.NumberRuns.{number_fits, number_passes, number_longest, hex_front}

pub nil_kind : java_kind [] ≡ None
unfolding signs
nil_kind = refl

-- a front that is a piece rules out a bad character
pub no_bad : (text : List ℕ) (n : ℕ) (kind : PieceKind) → 0 < n → n ≤ length text →
    java_kind (take n text) ≡ Some kind → unless_front is_piece BadCharacter text ≡ None
no_bad text n kind some fits is =
    let here : is_piece (take n text) ≡ true = rw is refl in
    rw (front_is is_piece text n some fits here) refl

-- a byte that begins no comment, no literal and no sign
pub record IsCalm (b : ℕ) : Type 0 where
  pub slash : nat_eq 47 b ≡ false
  pub dot : (b == 46) ≡ false
  pub one : (b == 39) ≡ false
  pub two : (b == 34) ≡ false
  pub one_quote : nat_eq 39 b ≡ false
  pub two_quotes : nat_eq 34 b ≡ false
  pub sign : (xs : List ℕ) → is_sign (b ∷ xs) ≡ false

pub no_sign : (b : ℕ) → b < 256 → is_start b ≡ false → (xs : List ℕ) → is_sign (b ∷ xs) ≡ false
no_sign b small none xs = let e : is_listed (signs_with b) (b ∷ xs) ≡ is_listed signs (b ∷ xs) = signs_listed b xs in
    rw (← e, ← is_start_only b small none) refl

calm : (p : ℕ → Bool) → all_below 128 (λ b. not (p b && nat_eq 47 b)) ≡ true →
    all_below 128 (λ b. not (p b && (b == 46))) ≡ true → all_below 128 (λ b. not (p b && (b == 39))) ≡ true →
    all_below 128 (λ b. not (p b && (b == 34))) ≡ true → all_below 128 (λ b. not (p b && nat_eq 39 b)) ≡ true →
    all_below 128 (λ b. not (p b && nat_eq 34 b)) ≡ true → all_below 128 (λ b. not (p b && is_start b)) ≡ true →
    (b : ℕ) →
    b < 128 → p b ≡ true → IsCalm b
calm p slash dot one two one_quote two_quotes start b small h = record {
  slash = never_both p (λ c. nat_eq 47 c) slash b small h;
  dot = never_both p (λ c. c == 46) dot b small h;
  one = never_both p (λ c. c == 39) one b small h;
  two = never_both p (λ c. c == 34) two b small h;
  one_quote = never_both p (λ c. nat_eq 39 c) one_quote b small h;
  two_quotes = never_both p (λ c. nat_eq 34 c) two_quotes b small h;
  sign = no_sign b (omega arith) (never_both p is_start start b small h);
}

calm_fault : (b : ℕ) (bs : List ℕ) (kind : PieceKind) → IsCalm b → java_kind (b ∷ []) ≡ Some kind →
    java_fault (b ∷ bs) ≡ None
calm_fault b bs kind c is = rw (c.slash, c.two_quotes, c.one_quote)
    (no_bad (b ∷ bs) 1 kind (omega arith) (omega arith) is)

-- ---- white space

white_calm : (b : ℕ) → is_white b ≡ true → IsCalm b
white_calm b h = calm is_white refl refl refl refl refl refl refl b (white_below b h) h

white_kind : (b : ℕ) → is_white b ≡ true → (xs : List ℕ) → java_kind (b ∷ xs) ≡ cond (is_nothing xs) (Some White) None
white_kind b h xs =
    let c = white_calm b h in
    rw (
      h,
      c.slash,
      never_both is_white is_letter refl b (white_below b h) h,
      never_both is_white is_digit refl b
          (white_below b h) h,
      c.dot,
      c.one,
      c.two,
      c.sign xs,
    ) refl

pub white_front : (b : ℕ) (bs : List ℕ) → is_white b ≡ true → IsFront java_lexis (b ∷ bs) 1 White
white_front b bs h = single_front java_lexis b bs White (white_kind b h) nil_kind
    (calm_fault b bs White (white_calm b h) (white_kind b h []))

-- ---- words

letter_calm : (b : ℕ) → is_letter b ≡ true → IsCalm b
letter_calm b h = calm is_letter refl refl refl refl refl refl refl b (letter_below b h) h

word_is : (b : ℕ) → is_letter b ≡ true → (xs : List ℕ) →
    java_kind (b ∷ xs) ≡ cond (list_all is_word_byte xs) (Some (Token (word_kind (b ∷ xs)))) None
word_is b h xs =
    let c = letter_calm b h in
    rw (
      never_both is_letter is_white refl b (letter_below b h) h,
      c.slash,
      h,
      never_both is_letter is_digit refl b
          (letter_below b h) h,
      c.dot,
      c.one,
      c.two,
      c.sign xs,
    ) refl

pub word_front : (b : ℕ) (bs : List ℕ) → is_letter b ≡ true →
    IsFront java_lexis (b ∷ bs) (1 + prefix_len is_word_byte bs)
    (Token (word_kind (take (1 + prefix_len is_word_byte bs) (b ∷ bs))))
word_front b bs h =
    let front = run_front java_lexis b bs is_word_byte (λ xs. Token (word_kind (b ∷ xs))) (word_is b h) nil_kind
    (calm_fault b bs _ (letter_calm b h) (word_is b h [])) in
    rw one-add (rw one-add at front)

-- ---- numbers that begin with a digit

digit_calm : (b : ℕ) → is_digit b ≡ true → IsCalm b
digit_calm b h = calm is_digit refl refl refl refl refl refl refl b (digit_below b h) h

number_kind : (b : ℕ) → is_digit b ≡ true → (xs : List ℕ) →
    java_kind (b ∷ xs) ≡ cond (go_on (begins_hex (b ∷ xs)) b xs) (Some (Token Number)) None
number_kind b h xs =
    let c = digit_calm b h in
    rw (
      never_both is_digit is_white refl b (digit_below b h) h,
      c.slash,
      never_both is_digit is_letter refl b
          (digit_below b h) h,
      h,
      c.one,
      c.two,
      c.sign xs,
    ) refl

pub digit_front : (b : ℕ) (bs : List ℕ) → is_digit b ≡ true →
    IsFront java_lexis (b ∷ bs) (suc (number_len (begins_hex (b ∷ bs)) b bs)) (Token Number)
digit_front b bs h =
    tested_front java_lexis b bs (λ xs. go_on (begins_hex (b ∷ xs)) b xs) (λ _. Token Number) (number_kind b h) nil_kind
    (calm_fault b bs (Token Number) (digit_calm b h) (number_kind b h []))
    (number_len (begins_hex (b ∷ bs)) b bs) (number_fits (begins_hex (b ∷ bs)) b bs)
    (hex_front b bs (number_len (begins_hex (b ∷ bs)) b bs) ∙ number_passes (begins_hex (b ∷ bs)) b bs)
    (λ k le go. number_longest (begins_hex (b ∷ bs)) b bs k le (sym (hex_front b bs k) ∙ go))
