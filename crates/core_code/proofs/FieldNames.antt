-- Which bytes are in no name of a field.
use Rattle.std.proofs.Common.{◌≡◌, ℕ, ◌-◌, Bool, true, false, ◌&&◌, ◌||◌, not, List, [], ◌∷◌, length}
use Rattle.std.proofs.Common.{nat_eq, codes, refl, sym, ap, ◌∙◌, subst, arith}
use Rattle.std.specs.Prelude.{bytes_eq}
use borrow.Author.Tests.{eqb-true}
use Rattle.std.proofs.lemmas.List.Elements.{All-cons, All-nil, All-append}
use Rattle.std.specs.List.{All, list_all}
use Rattle.std.proofs.lemmas.Bool.{and_parts, and_right}
use Rattle.std.proofs.lemmas.Slice.Eq.{bytes_eq-Decides}
use Rattle.std.proofs.lemmas.List.{length-append, take_at}
use Rattle.racer_base.proofs.Tests.{bytes_same}
use Rattle.racer_base.specs.Name.{fixed_words, is_digit, is_letter, is_listed, is_word, is_word_byte, keywords}
use Rattle.core_code.specs.Names.{is_identifier, is_field_name, is_content_name, content_name, front_name, same_text}

-- a byte that is in no word
module _ (d : ℕ) (other : is_word_byte d ≡ false) where
  abbrev IsOther : ℕ → Type 0
  IsOther b = nat_eq b d ≡ false

  other-byte : (b : ℕ) → is_word_byte b ≡ true → IsOther b
  other-byte b h = by (nat_eq b d) refl
    where
      by : (t : Bool) → nat_eq b d ≡ t → t ≡ false
      by true e =
          let wrong : true ≡ false = sym h ∙ ap is_word_byte (eqb-true b d e) ∙ other in
          absurd cc
      by false e = refl

  other-bytes : (bs : List ℕ) → list_all is_word_byte bs ≡ true → All IsOther bs
  other-bytes [] h = All-nil IsOther
  other-bytes (b ∷ bs) h =
      All-cons IsOther b bs (other-byte b (and_parts (is_word_byte b) (list_all is_word_byte bs) h).0)
      (other-bytes bs (and_parts (is_word_byte b) (list_all is_word_byte bs) h).1)

  word-without : (text : List ℕ) → is_word text ≡ true → All IsOther text
  word-without [] h = All-nil IsOther
  word-without (b ∷ bs) h =
      All-cons IsOther b bs
      (other-byte b (ap (λ (t : Bool). t || is_digit b) (and_parts (is_letter b) (list_all is_word_byte bs) h).0))
      (other-bytes bs (and_parts (is_letter b) (list_all is_word_byte bs) h).1)

-- ---- identifiers

identifier-word : (name : List ℕ) → is_identifier name ≡ true → is_word name ≡ true
identifier-word name h =
    (and_parts (is_word name) (not (is_listed keywords name)) (and_parts (is_word name && not (is_listed keywords name))
    (not (is_listed fixed_words name)) h).0).0

-- ---- names of contents

word-brackets : (bs : List ℕ) → list_all is_word_byte (content_name bs) ≡ false
word-brackets [] = refl
word-brackets (b ∷ bs) = and_right (is_word_byte b) (list_all is_word_byte (content_name bs)) (word-brackets bs)

content-no-word : (name : List ℕ) → is_word (content_name name) ≡ false
content-no-word [] = refl
content-no-word (b ∷ bs) = and_right (is_letter b) (list_all is_word_byte (content_name bs)) (word-brackets bs)

content-no-identifier : (name : List ℕ) → is_identifier (content_name name) ≡ false
content-no-identifier name =
    let text = content_name name in
    ap (λ (t : Bool). t && not (is_listed keywords text) && not (is_listed fixed_words text)) (content-no-word name)

content-front : (name : List ℕ) → front_name (content_name name) ≡ name
content-front name =
    take_at name (codes "[]") (length (content_name name) - 2) (omega (arith, length-append name (codes "[]")))

and-true : (t : Bool) → (t && true) ≡ t
and-true true = refl
and-true false = refl

pub content-of : (name : List ℕ) → is_field_name (content_name name) ≡ is_identifier name
content-of name =
    let text = content_name name in
    ap (λ (t : Bool). t || is_content_name text) (content-no-identifier name)
    ∙ ap (λ (front : List ℕ). is_identifier front && bytes_eq text (content_name front)) (content-front name)
    ∙ ap (λ (t : Bool). is_identifier name && t) (bytes_same text)
    ∙ and-true (is_identifier name)

pub content-differs : (name other : List ℕ) → is_identifier name ≡ true → same_text name (content_name other) ≡ false
content-differs name other h = by (same_text name (content_name other)) refl
  where
    by : (t : Bool) → same_text name (content_name other) ≡ t → t ≡ false
    by true e =
        let wrong : true ≡ false =
        sym h ∙ ap is_identifier ((bytes_eq-Decides name (content_name other)).0 e) ∙ content-no-identifier other in
        absurd cc
    by false e = refl

-- ---- bytes that are in no name of a field

module _ (d : ℕ) (other : is_word_byte d ≡ false) (left : nat_eq 91 d ≡ false) (right : nat_eq 93 d ≡ false) where
  brackets : All (IsOther d other) (codes "[]")
  brackets =
      All-cons (IsOther d other) 91 (93 ∷ []) left (All-cons (IsOther d other) 93 [] right (All-nil (IsOther d other)))

  content-without : (text : List ℕ) → is_content_name text ≡ true → All (IsOther d other) text
  content-without text h =
      let both = and_parts (is_identifier (front_name text)) (bytes_eq text (content_name (front_name text))) h in
      subst (All (IsOther d other)) (sym ((bytes_eq-Decides text (content_name (front_name text))).0 both.1))
      (All-append (IsOther d other) (front_name text) (codes "[]")
      (word-without d other (front_name text) (identifier-word (front_name text) both.0)) brackets)

  field_name-without : (text : List ℕ) → is_field_name text ≡ true → All (IsOther d other) text
  field_name-without text h = by (is_identifier text) refl
    where
      by : (t : Bool) → is_identifier text ≡ t → All (IsOther d other) text
      by true e = word-without d other text (identifier-word text e)
      by false e = content-without text (ap (λ (t : Bool). t || is_content_name text) (sym e) ∙ h)

pub field_name-no-dot : (name : List ℕ) → is_field_name name ≡ true → All (λ b. nat_eq b 46 ≡ false) name
field_name-no-dot = field_name-without 46 refl refl refl

pub field_name-no-number-sign : (name : List ℕ) → is_field_name name ≡ true → All (λ b. nat_eq b 35 ≡ false) name
field_name-no-number-sign = field_name-without 35 refl refl refl
