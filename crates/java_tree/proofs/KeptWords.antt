-- The places that are kept of tokens that are cut in two, and which words keep none.
use Rattle.std.proofs.Common.{◌≡◌, ℕ, Bool, true, false, cond, List, [], ◌∷◌, ◌++◌, codes, refl, ap}
use Rattle.std.specs.Prelude.{bytes_eq}
use Rattle.std.specs.Cmp.Lexicographic.{bytes_decides}
use Rattle.java_lexer.specs.declared.token.Token.{Token}
use Rattle.java_lexer.specs.declared.token.TokenKind.TheVariants as kind
use Rattle.java_tree.specs.Formed.{is_plain_word}
use Rattle.java_tree.specs.KeptPlaces.{Places, is_kept, kept}
use Rattle.java_tree.specs.KeptPlaces.{AreAt, some_onto}

pub kept-append : (a b : List Token) → kept (a ++ b) ≡ kept a ++ kept b
kept-append [] b = refl
kept-append (t ∷ a) b = by (is_kept t.kind t.text) (kept-append a b) where
  by : (c : Bool) → kept (a ++ b) ≡ kept a ++ kept b
      → cond c (t.place ∷ kept (a ++ b)) (kept (a ++ b)) ≡ cond c (t.place ∷ kept a) (kept a) ++ kept b
  by true e = ap (λ l. t.place ∷ l) e
  by false e = e

pub other_than : (word text : List ℕ) → is_plain_word word ≡ false → is_plain_word text ≡ true → (b : Bool)
    → bytes_eq text word ≡ b → b ≡ false
other_than word text lacks plain true e =
    let same : is_plain_word word ≡ true = rw ((bytes_decides text word).0 e) at plain in
    absurd cc
other_than word text lacks plain false e = refl

-- a primitive type is no word whose place is kept
pub plain-unkept : (text : List ℕ) → is_plain_word text ≡ true → is_kept kind.Keyword text ≡ false
plain-unkept text plain =
    rw (
      other_than (codes "new") text refl plain (bytes_eq text (codes "new")) refl,
      other_than (codes "synchronized") text refl plain (bytes_eq text (codes "synchronized")) refl,
      other_than (codes "throw") text refl plain (bytes_eq text (codes "throw")) refl,
    ) refl

-- what stands at some places stands at those
pub all-at : (ps : Places) → AreAt (some_onto ps []) ps
all-at [] = tt
all-at (p ∷ ps) = (refl, all-at ps)
