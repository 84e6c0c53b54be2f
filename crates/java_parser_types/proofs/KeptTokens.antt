-- The places that are kept of keywords in front, and behind them.
use Rattle.std.proofs.Common.{◌≡◌, ℕ, ◌-◌, ◌≤◌, Bool, true, false, List, [], ◌∷◌, not, ◌&&◌, length, get_or, take}
use Rattle.std.proofs.Common.{drop, if◌then◌else◌, refl, ap, ◌∙◌, arith}
use Rattle.std.specs.Prelude.{bytes_eq}
use Rattle.std.specs.Cmp.Lexicographic.{bytes_decides}
use Rattle.std.proofs.Math.Seq.{take-length}
use Rattle.racer_base.specs.declared.ids.Place.{Place}
use Rattle.java_lexer.specs.declared.token.Token.{Token}
use Rattle.java_lexer.specs.declared.token.TokenKind.{TokenKind}
use Rattle.java_lexer.specs.declared.token.TokenKind.TheVariants as kind
use Rattle.java_tree.specs.Formed.{is_plain_word}
use Rattle.java_tree.specs.KeptPlaces.{Places, is_kept, place_onto, kept}
use Rattle.java_tree.proofs.KeptWords.{plain-unkept}
use Rattle.java_tree.specs.Brackets.{is_keyword_kind, is_keyword}
use Rattle.java_parser_types.specs.Tokens.{spelled}

-- what is kept behind a keyword, by what is kept of the keyword
dropped : (b : Bool) (p : Place) (ps : Places) → ps ≡ (if b then drop 1 (if b then p ∷ ps else ps) else (if b
    then p ∷ ps else ps))
dropped true p ps = refl
dropped false p ps = refl

keyword_place : (k : TokenKind) (own text : List ℕ) (glued : Bool) (p : Place) (ps : Places) → (is_keyword_kind k
    && (not glued && bytes_eq own text)) ≡ true → ps ≡ (if is_kept kind.Keyword text then drop 1
    (place_onto k own p ps) else place_onto k own p ps)
keyword_place kind.Keyword own text false p ps e =
    rw ((bytes_decides own text).0 e) (dropped (is_kept kind.Keyword text) p ps)
keyword_place kind.Keyword own text true p ps e = absurd cc
keyword_place _ own text glued p ps e = absurd cc

-- the tokens behind the first
behind : (u : Token) (us : List Token) → take (length (u ∷ us) - 1) (drop 1 (u ∷ us)) ≡ us
behind u us =
    let n : length (u ∷ us) - 1 ≡ length us = omega arith in
    rw n (take-length us)

pub keyword_behind : (text : List ℕ) (ts : List Token) (t : Token) → 1 ≤ length ts → t ≡ get_or ts 0 t
    → is_keyword text (spelled t) ≡ true → kept (take (length ts - 1) (drop 1 ts)) ≡ (if is_kept kind.Keyword text
    then drop 1 (kept ts) else kept ts)
keyword_behind text [] t some first e = absurd (omega arith)
keyword_behind text (u ∷ us) t some first e =
    let e' : is_keyword text (spelled u) ≡ true = rw first at e in
    ap kept (behind u us) ∙ keyword_place u.kind u.text text u.glued u.place (kept us) e'

-- ---- the word of a primitive type

pub plain_behind : (ts : List Token) (t : Token) → 1 ≤ length ts → t ≡ get_or ts 0 t → t.kind ≡ kind.Keyword
    → is_plain_word t.text ≡ true → kept (take (length ts - 1) (drop 1 ts)) ≡ kept ts
plain_behind [] t some first word plain = absurd (omega arith)
plain_behind (u ∷ us) t some first word plain =
    let word' : u.kind ≡ kind.Keyword = rw first at word in
    let plain' : is_plain_word u.text ≡ true = rw first at plain in
    let unkept : is_kept kind.Keyword u.text ≡ false = plain-unkept u.text plain' in
    ap kept (behind u us) ∙ rw (word', unkept) refl
