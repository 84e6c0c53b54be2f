-- A contract of a public call rests on this: brackets among tokens (JLS 3.11).
use Rattle.std.specs.Prelude.{ℕ, Bool, true, false, not, ◌&&◌, ◌||◌, List, [], ◌∷◌, Option, Some, None, codes}
use Rattle.std.specs.Prelude.{bytes_eq, if◌then◌else◌}
use Rattle.java_lexer.specs.declared.token.TokenKind.{TokenKind}
use Rattle.java_lexer.specs.declared.token.TokenKind.TheVariants as kind
use Rattle.java_tree.specs.declared.words.Spelled.{Spelled}

abbrev pub is_sign_kind : TokenKind → Bool
is_sign_kind kind.Sign = true
is_sign_kind _ = false

abbrev pub is_keyword_kind : TokenKind → Bool
is_keyword_kind kind.Keyword = true
is_keyword_kind _ = false

abbrev pub is_name_kind : TokenKind → Bool
is_name_kind kind.Name = true
is_name_kind _ = false

-- whether the token is this sign, glued to nothing
abbrev pub is_sign : List ℕ → Spelled → Bool
is_sign text t = is_sign_kind t.kind && (not t.glued && bytes_eq t.text text)

-- whether the token is this keyword
abbrev pub is_keyword : List ℕ → Spelled → Bool
is_keyword text t = is_keyword_kind t.kind && (not t.glued && bytes_eq t.text text)

-- whether the token is a name
abbrev pub is_word_name : Spelled → Bool
is_word_name t = is_name_kind t.kind && not t.glued

-- whether the token is a word of a local class (JLS 14.3)
abbrev pub is_class_word : Spelled → Bool
is_class_word t = is_keyword (codes "final") t || is_keyword (codes "abstract") t

abbrev pub has_none : List Spelled → Bool
has_none [] = true
has_none (t ∷ ts) = false

abbrev pub are_none : List (List ℕ) → Bool
are_none [] = true
are_none (text ∷ texts) = false

abbrev pub is_closing : Spelled → Bool
is_closing t = is_sign (codes ")") t || (is_sign (codes "]") t || is_sign (codes "}") t)

-- the closing brackets that are awaited behind the token, the innermost first, where it closes none but the
-- innermost one
abbrev pub awaited_behind : Spelled → List ℕ → List (List ℕ) → Option (List (List ℕ))
awaited_behind t inner outer =
    if is_sign (codes "(") t then Some (codes ")" ∷ inner ∷ outer)
    else (if is_sign (codes "[") t then Some (codes "]" ∷ inner ∷ outer)
    else (if is_sign (codes "{") t then Some (codes "}" ∷ inner ∷ outer)
    else (if is_sign inner t then Some outer
    else (if is_closing t then None else Some (inner ∷ outer)))))

abbrev pub is_some_and : {A : Type 0} → Option A → (A → Bool) → Bool
is_some_and None test = false
is_some_and (Some x) test = test x

-- whether the tokens close the brackets that are awaited, with their last token and not before
abbrev pub closes : List (List ℕ) → List Spelled → Bool
closes [] [] = true
closes [] (t ∷ ts) = false
closes (inner ∷ outer) [] = false
closes (inner ∷ outer) (t ∷ ts) = is_some_and (awaited_behind t inner outer) (λ awaited. closes awaited ts)

-- whether the tokens are one pair of these brackets with balanced tokens in it
abbrev pub are_between : (opening closing : List ℕ) → List Spelled → Bool
are_between opening closing [] = false
are_between opening closing (t ∷ ts) = is_sign opening t && closes (closing ∷ []) ts

-- whether the tokens are one pair of parentheses with balanced tokens in it, or none at all
abbrev pub are_parentheses_or_none : List Spelled → Bool
are_parentheses_or_none [] = true
are_parentheses_or_none (t ∷ ts) = is_sign (codes "(") t && closes (codes ")" ∷ []) ts

abbrev pub are_braces : List Spelled → Bool
are_braces ts = are_between (codes "{") (codes "}") ts

-- what stands before the `->` of a lambda: a name, or parentheses with any balanced tokens (JLS 15.27.1)
abbrev pub are_lambda_parameters : List Spelled → Bool
are_lambda_parameters [] = false
are_lambda_parameters (t ∷ ts) = (is_word_name t && has_none ts) || are_between (codes "(") (codes ")") (t ∷ ts)

-- ---- local classes (JLS 14.3)

-- the closing bracket that the token makes awaited, and those awaited before, where no `{` may stand
abbrev pub awaited_in_head : Spelled → List (List ℕ) → Option (List (List ℕ))
awaited_in_head t [] =
    if is_sign (codes "(") t then Some (codes ")" ∷ [])
    else (if is_sign (codes "[") t then Some (codes "]" ∷ []) else (if is_closing t then None else Some []))
awaited_in_head t (inner ∷ outer) = awaited_behind t inner outer

-- whether the tokens, where these closing brackets are awaited, are balanced ones without `{` and then one pair of
-- braces with balanced tokens in it
abbrev pub closes_class : List (List ℕ) → List Spelled → Bool
closes_class awaited [] = false
closes_class awaited (t ∷ ts) =
    if is_sign (codes "{") t then are_none awaited && closes (codes "}" ∷ []) ts
    else is_some_and (awaited_in_head t awaited) (λ more. closes_class more ts)

-- whether the tokens are those of a local class of this name
abbrev pub are_class : (name : List ℕ) → List Spelled → Bool
are_class name [] = false
are_class name (t ∷ []) = false
are_class name (t ∷ u ∷ ts) =
    if is_class_word t then are_class name (u ∷ ts)
    else is_keyword (codes "class") t && (is_word_name u && (bytes_eq u.text name && closes_class [] ts))
