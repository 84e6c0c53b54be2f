-- The bytes of a string begin with a character.
use Rattle.std.proofs.Common.{◌≡◌, ◌⊎◌, ℕ, true, List, [], ◌∷◌, map, string_bytes, is_some, slice_get, refl, sym, ap}
use Rattle.std.proofs.Common.{subst, ◌∙◌, inl, inr, String}
use Rattle.std.specs.Str.{chars, IsUtf8}
use Rattle.std.proofs.lemmas.Str.{IsUtf8-string_bytes, encodes-chars, chars_past_char}
use Rattle.std.proofs.Math.Utf8.{encode, encodes}
use Rattle.racer_words.specs.Uses.{Word}
use Rattle.racer_words.specs.Readings.{IsText, AreTexts}

by_chars : (rest : Word) (cs : List ℕ) → chars rest ≡ cs → encodes cs ≡ rest
    → (rest ≡ []) ⊎ (is_some (slice_get cs 0) ≡ true)
by_chars rest [] e f = inl (sym f)
by_chars rest (c ∷ cs) e f = inr refl

tail_is : (a : ℕ) (xs ys : List ℕ) → (a ∷ xs) ≡ (a ∷ ys) → xs ≡ ys
tail_is a xs ys e = cc e

pub is_text : (word : Word) → IsUtf8 word → IsText word
unfolding encode
is_text word u rest e =
    let v = subst IsUtf8 e u in
    let f : chars (45 ∷ rest) ≡ 45 ∷ chars rest = chars_past_char (45 ∷ rest) rest 45 v refl in
    let g : encodes (45 ∷ chars rest) ≡ 45 ∷ rest = ap encodes (sym f) ∙ encodes-chars (45 ∷ rest) v in
    by_chars rest (chars rest) refl (tail_is 45 (encodes (chars rest)) rest g)

pub are_texts : {Z : Type 0} (words : List (String Z)) → AreTexts (map string_bytes words)
are_texts [] = tt
are_texts (word ∷ words) = (is_text (string_bytes word) (IsUtf8-string_bytes word), are_texts words)
