-- A contract of a public call rests on this: tests of one token, and of tokens by the first of them.
use Rattle.std.specs.Prelude.{◌≡◌, ℕ, Bool, false, not, ◌&&◌, List, [], ◌∷◌, ◌++◌, codes, bytes_eq, map}
use Rattle.racer_base.specs.declared.ids.Place.{Place}
use Rattle.racer_base.specs.Name.{is_listed}
use Rattle.java_lexer.specs.declared.token.Token.{Token}
use Rattle.java_tree.specs.declared.words.Spelled.{Spelled}
use Rattle.java_tree.specs.Brackets.{is_sign_kind, is_sign}
use Rattle.java_tree.specs.KeptPlaces.{Places, kept}
use Rattle.java_tree.specs.Brackets.{is_keyword_kind, is_keyword}
use Rattle.java_tree.specs.Brackets.{is_word_name}

-- tokens without their places
abbrev pub plain : Token → Spelled
plain t = record { kind = t.kind; text = t.text; glued = t.glued }

abbrev pub plain_all : List Token → List Spelled
plain_all ts = map plain ts

-- whether the token is this sign, glued to nothing
abbrev pub is_sign_token : List ℕ → Token → Bool
is_sign_token text t = is_sign text (plain t)

-- whether the token is this keyword
abbrev pub is_word_token : List ℕ → Token → Bool
is_word_token text t = is_keyword text (plain t)

-- whether the token is one of these keywords
abbrev pub is_keyword_of : List (List ℕ) → Token → Bool
is_keyword_of words t = is_keyword_kind t.kind && (not t.glued && is_listed words t.text)

abbrev pub is_name : Token → Bool
is_name t = is_word_name (plain t)

-- whether the token is a `>`, glued or not
abbrev pub is_angle : Token → Bool
is_angle t = is_sign_kind t.kind && bytes_eq t.text (codes ">")

-- ---- by the first token

-- whether there is a first token, and it passes the test
abbrev pub begins : (Token → Bool) → List Token → Bool
begins test [] = false
begins test (t ∷ ts) = test t

-- with this sign
abbrev pub begins_sign : List ℕ → List Token → Bool
begins_sign text ts = begins (is_sign_token text) ts

-- with this keyword
abbrev pub begins_word : List ℕ → List Token → Bool
begins_word text ts = begins (is_word_token text) ts

-- the place of the first token, or else this place
abbrev pub first_place : Place → List Token → Place
first_place other [] = other
first_place other (t ∷ ts) = t.place

-- ---- places

-- these places are the last of those of the tokens of which a tree keeps one
abbrev pub AreLast : Places → List Token → Type 0
AreLast places ts = (before : Places) × (before ++ places ≡ kept ts)
