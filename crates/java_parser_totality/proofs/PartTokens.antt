-- Signs, keywords, names and `[ ]` as parts, whatever they put before the places behind them.
use Rattle.std.proofs.Common.{◌≡◌, ℕ, zero, suc, Bool, true, false, List, ◌∷◌, refl, arith, codes}
use Rattle.racer_base.specs.declared.ids.Place.{Place}
use Rattle.java_lexer.specs.declared.token.TokenKind.TheVariants as kind
use Rattle.java_tree.specs.declared.words.Ident.{Ident}
use Rattle.java_tree.specs.declared.words.Spelled.{Spelled}
use Rattle.java_tree.specs.Words.{sign, sign_glued, keyword, identifier}
use Rattle.java_tree.specs.KeptPlaces.{Places, is_kept}
use Rattle.java_tree.specs.Spelling.{brackets_onto}
use Rattle.java_tree.specs.View.{name_of}
use Rattle.java_parser_totality.proofs.Parts.{Part, Makes, Maker, maker, word, word-made, placed, placed-made}
use Rattle.java_parser_totality.proofs.Parts.{nothing-made, and, as-made}

module _ {P : Type 0} (Fits : P → Places → Type 0) where
  abbrev pub a_word : (s : Spelled) → is_kept s.kind s.text ≡ false → Maker Fits
  a_word s unkept = maker Fits (word Fits s) (word-made Fits s unkept)

  abbrev pub a_sign : (text : List ℕ) → Maker Fits
  a_sign text = a_word (sign text) refl

  abbrev pub a_glued : (glued : Bool) (text : List ℕ) → Maker Fits
  a_glued glued text = a_word (sign_glued glued text) refl

  abbrev pub a_keyword : (text : List ℕ) → is_kept kind.Keyword text ≡ false → Maker Fits
  a_keyword text unkept = a_word (keyword text) unkept

  abbrev pub brackets_part : ℕ → Part P
  brackets_part n =
      record { X = Unit {0}; ok = λ _. Unit {0}; put = λ _ ps. ps; size = λ _. 0; onto = brackets_onto n }

  pub brackets-made : (n : ℕ) → Makes Fits (brackets_part n)
  brackets-made zero = nothing-made Fits
  brackets-made (suc n) =
      as-made Fits (and Fits (a_sign (codes "[")) (and Fits (a_sign (codes "]")) (maker Fits (brackets_part n)
      (brackets-made n)))) (brackets_part (suc n)) (λ x. tt)
      (record { ok = λ x s h. tt; put = λ x s ps. refl; size = λ x. omega arith; onto = λ rest. refl })

  abbrev pub some_brackets : ℕ → Maker Fits
  some_brackets n = maker Fits (brackets_part n) (brackets-made n)

  -- a token whose place is kept
  module _ (add : Place → P → P) (adds : (p : Place) (ps : P) (qs : Places) → Fits ps qs
      → Fits (add p ps) (p ∷ qs)) where
    abbrev pub a_placed : (s : Spelled) → is_kept s.kind s.text ≡ true → Maker Fits
    a_placed s is = maker Fits (placed Fits add adds s) (placed-made Fits add adds s is)

    abbrev pub name_part : List ℕ → Part P
    name_part x =
        record {
          X = Ident;
          ok = λ i. name_of i ≡ x;
          put = λ i ps. add i.place ps;
          size = λ _. 1;
          onto = λ rest. identifier x ∷ rest;
        }

    pub name-made : (x : List ℕ) → Makes Fits (name_part x)
    name-made x =
        as-made Fits (a_placed (identifier x) refl) (name_part x) (λ p. record { text = x; place = p })
        (record { ok = λ p s h. refl; put = λ p s ps. refl; size = λ p. omega arith; onto = λ rest. refl })

    abbrev pub a_name : (x : List ℕ) → Maker Fits
    a_name x = maker Fits (name_part x) (name-made x)
