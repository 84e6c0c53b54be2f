-- Two cuts of tokens with as many tokens at the end are one.
use Rattle.std.proofs.Common.{◌≡◌, ℕ, suc, Bool, true, false, List, [], ◌∷◌, ◌++◌, length, map, refl, ap, sym, ◌∙◌}
use Rattle.std.proofs.Common.{if◌then◌else◌, length-append, arith}
use Rattle.racer_base.specs.declared.ids.Place.{Place}
use Rattle.java_lexer.specs.declared.token.Token.{Token}
use Rattle.java_tree.specs.declared.words.Spelled.{Spelled}
use Rattle.java_tree.specs.KeptPlaces.{Places, is_kept, kept}
use Rattle.java_tree.proofs.KeptWords.{kept-append}
use Rattle.java_parser_types.specs.Tokens.{spelled}

pub record SameEnds {A : Type 0} (a b x y : List A) : Type 0 where
  pub front : a ≡ b
  pub end : x ≡ y

pub same_ends : {A : Type 0} (a b x y : List A) → a ++ x ≡ b ++ y → length x ≡ length y → SameEnds a b x y
same_ends [] [] x y e n = record { front = refl; end = e }
same_ends [] (j ∷ b) x y e n = absurd (omega (arith, n, ap length e, length-append b y))
same_ends (i ∷ a) [] x y e n = absurd (omega (arith, n, ap length e, length-append a x))
same_ends (i ∷ a) (j ∷ b) x y e n =
    let first : i ≡ j = cc in
    let others : a ++ x ≡ b ++ y = cc in
    let found = same_ends a b x y others n in
    let front : a ≡ b = found.front in
    record { front = cc; end = found.end }

-- ---- tokens without places

pub plain_append : (r s : List Token) → map spelled (r ++ s) ≡ map spelled r ++ map spelled s
plain_append [] s = refl
plain_append (t ∷ r) s = ap (λ l. spelled t ∷ l) (plain_append r s)

pub plain_length : (ts : List Token) → length (map spelled ts) ≡ length ts
plain_length [] = refl
plain_length (t ∷ ts) = omega (arith, plain_length ts)

pub same_size : (r s : List Token) → map spelled r ≡ map spelled s → length r ≡ length s
same_size r s e = sym (plain_length r) ∙ ap length e ∙ plain_length s

-- tokens that end as they were spelled
pub plain_ends : (ts front rest left : List Token) (xs : List Spelled) → ts ≡ front ++ rest
    → length rest ≡ length left → map spelled ts ≡ xs ++ map spelled left
    → SameEnds (map spelled front) xs (map spelled rest) (map spelled left)
plain_ends ts front rest left xs parts size spells =
    same_ends (map spelled front) xs (map spelled rest) (map spelled left)
    (sym (plain_append front rest) ∙ sym (ap (map spelled) parts) ∙ spells)
    (plain_length rest ∙ size ∙ sym (plain_length left))

-- ---- kept places

place_append : (b : Bool) (p : Place) (ps qs : Places)
    → (if b then p ∷ (ps ++ qs) else (ps ++ qs)) ≡ (if b then p ∷ ps else ps) ++ qs
place_append true p ps qs = refl
place_append false p ps qs = refl

-- how many of these tokens are kept
abbrev counted : Bool → ℕ → ℕ
counted true n = suc n
counted false n = n

abbrev kept_count : List Spelled → ℕ
kept_count [] = 0
kept_count (s ∷ ss) = counted (is_kept s.kind s.text) (kept_count ss)

count_place : (b : Bool) (p : Place) (ps : Places) (n : ℕ) → length ps ≡ n
    → length (if b then p ∷ ps else ps) ≡ counted b n
count_place true p ps n e = omega (arith, e)
count_place false p ps n e = e

kept_length : (ts : List Token) → length (kept ts) ≡ kept_count (map spelled ts)
kept_length [] = refl
kept_length (t ∷ ts) =
    count_place (is_kept t.kind t.text) t.place (kept ts) (kept_count (map spelled ts)) (kept_length ts)

-- places that end as those of other tokens with the same spelling
pub kept_ends : (ts front rest left : List Token) (ps : Places) → ts ≡ front ++ rest
    → map spelled rest ≡ map spelled left → ps ++ kept left ≡ kept ts → ps ≡ kept front
kept_ends ts front rest left ps parts same places =
    let sizes : length (kept left) ≡ length (kept rest) = kept_length left ∙ ap kept_count (sym same)
    ∙ sym (kept_length rest) in
    (same_ends ps (kept front) (kept left) (kept rest)
    (places ∙ ap kept parts ∙ kept-append front rest) sizes).front
