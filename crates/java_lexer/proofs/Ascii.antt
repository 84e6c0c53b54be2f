-- Texts that are ASCII.
use Rattle.std.proofs.Common.{◌≡◌, ℕ, zero, suc, ◌<◌, Bool, true, false, List, [], ◌∷◌, inl, inr}
use Rattle.std.proofs.Common.{arith}
use Rattle.std.specs.Prelude.{nat_lt, nat_eq}
use Rattle.std.specs.List.{list_all}
use Rattle.std.specs.Cmp.Lexicographic.{pointwise, bytes_decides}
use Rattle.std.specs.Str.{IsAscii}
use Rattle.std.proofs.lemmas.Bool.{false≢true, and_parts, or_cases}
use Rattle.std.proofs.lemmas.Bool.Decides.{nat_tests}
use Rattle.racer_base.specs.Name.{is_letter, is_digit, is_word_byte, is_word, is_listed}
use Rattle.java_lexer.specs.Kinds.{is_white}

abbrev pub is_ascii : ℕ → Bool
is_ascii b = nat_lt b 128

pub ascii_all : (test : ℕ → Bool) → ((b : ℕ) → test b ≡ true → b < 128) → (bs : List ℕ) → list_all test bs ≡ true →
    IsAscii bs
ascii_all test below [] h i = omega arith
ascii_all test below (b ∷ bs) h zero = below b (and_parts _ _ h).0
ascii_all test below (b ∷ bs) h (suc i) = ascii_all test below bs (and_parts _ _ h).1 i

is_ascii_below : (b : ℕ) → is_ascii b ≡ true → b < 128
is_ascii_below b h = grind (arith, nat_tests)

pub word_byte_below : (b : ℕ) → is_word_byte b ≡ true → b < 128
word_byte_below b h = grind (arith, nat_tests)

pub letter_below : (b : ℕ) → is_letter b ≡ true → b < 128
letter_below b h = grind (arith, nat_tests)

pub white_below : (b : ℕ) → is_white b ≡ true → b < 128
white_below b h = grind (arith, nat_tests)

pub digit_below : (b : ℕ) → is_digit b ≡ true → b < 128
digit_below b h = grind (arith, nat_tests)

pub ascii_more : (b : ℕ) (bs : List ℕ) → b < 128 → IsAscii bs → IsAscii (b ∷ bs)
ascii_more b bs h all zero = h
ascii_more b bs h all (suc i) = all i

pub word_ascii : (bytes : List ℕ) → is_word bytes ≡ true → IsAscii bytes
word_ascii [] h = absurd (false≢true h)
word_ascii (b ∷ bs) h = ascii_more b bs (letter_below b (and_parts _ _ h).0)
    (ascii_all is_word_byte word_byte_below bs (and_parts _ _ h).1)

-- what is listed is as ASCII as the list
pub listed_ascii : (table : List (List ℕ)) (bytes : List ℕ) → list_all (list_all is_ascii) table ≡ true →
    is_listed table bytes ≡ true → IsAscii bytes
listed_ascii [] bytes all h = absurd (false≢true h)
listed_ascii (t ∷ ts) bytes all h =
    elim (or_cases (pointwise nat_eq bytes t) (is_listed ts bytes) h) [
      | inl e ↦ let same : bytes ≡ t = (bytes_decides bytes t).0 e in
          rw same (ascii_all is_ascii is_ascii_below t (and_parts _ _ all).0)
      | inr e ↦ listed_ascii ts bytes (and_parts _ _ all).1 e
    ]
