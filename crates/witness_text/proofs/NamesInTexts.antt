-- The names between the dots of the text of a start path.
use Rattle.std.proofs.Common.{◌≡◌, ℕ, Bool, true, false, ◌||◌, ◌==◌, List, [], ◌∷◌, ◌++◌, map}
use Rattle.std.proofs.Common.{refl, sym, ap, ◌∙◌, append-nil}
use borrow.Author.Tests.{eqb-true}
use Rattle.std.proofs.lemmas.List.Splits.{slice_split_at, slice_split_none}
use Rattle.std.proofs.lemmas.List.Elements.{All-cons, All-nil}
use Rattle.std.specs.List.{All, list_all, slice_split}
use Rattle.std.proofs.lemmas.Bool.{and_parts}
use Rattle.racer_base.specs.declared.ids.FieldId.{FieldId}
use Rattle.racer_base.specs.Name.{is_digit, is_letter, is_word, is_word_byte}
use Rattle.access_paths.specs.Text.{fields_text, name_at}
use Rattle.witness_text_names.specs.Names.{names_in}

abbrev pub is_dot : ℕ → Bool
is_dot b = b == 46

no-dot-byte : (b : ℕ) → is_word_byte b ≡ true → is_dot b ≡ false
no-dot-byte b h = by (is_dot b) refl
  where
    by : (t : Bool) → is_dot b ≡ t → t ≡ false
    by true e =
        let same : b ≡ 46 = eqb-true b 46 e in
        let wrong : false ≡ true = ap is_word_byte (sym same) ∙ h in
        absurd cc
    by false e = refl

pub no-dots : (bs : List ℕ) → list_all is_word_byte bs ≡ true → All (λ b. is_dot b ≡ false) bs
no-dots [] h = All-nil (λ b. is_dot b ≡ false)
no-dots (b ∷ bs) h =
    All-cons (λ b. is_dot b ≡ false) b bs (no-dot-byte b (and_parts (is_word_byte b) (list_all is_word_byte bs) h).0)
    (no-dots bs (and_parts (is_word_byte b) (list_all is_word_byte bs) h).1)

letter-is : (b : ℕ) → is_letter b ≡ true → is_word_byte b ≡ true
letter-is b h = ap (λ (t : Bool). t || is_digit b) h

pub word-no-dots : (text : List ℕ) → is_word text ≡ true → All (λ b. is_dot b ≡ false) text
word-no-dots [] h = All-nil (λ b. is_dot b ≡ false)
word-no-dots (b ∷ bs) h =
    All-cons (λ b. is_dot b ≡ false) b bs
    (no-dot-byte b (letter-is b (and_parts (is_letter b) (list_all is_word_byte bs) h).0))
    (no-dots bs (and_parts (is_letter b) (list_all is_word_byte bs) h).1)

-- no name of a field has a dot
abbrev pub AreDotless : List (List ℕ) → List FieldId → Type 0
AreDotless names [] = Unit {0}
AreDotless names (f ∷ fs) = All (λ b. is_dot b ≡ false) (name_at names f.0) × AreDotless names fs

pub names-in : (names : List (List ℕ)) (root : List ℕ) (fs : List FieldId) → All (λ b. is_dot b ≡ false) root →
    AreDotless names fs → names_in (root ++ fields_text names fs) ≡ root ∷ map (λ (f : FieldId). name_at names f.0) fs
names-in names root [] dotless h =
    ap (slice_split is_dot) (append-nil root) ∙ slice_split_none is_dot root dotless
names-in names root (f ∷ fs) dotless h =
    slice_split_at is_dot root 46 (name_at names f.0 ++ fields_text names fs) dotless refl
    ∙ ap (λ (parts : List (List ℕ)). root ∷ parts) (names-in names (name_at names f.0) fs h.0 h.1)
