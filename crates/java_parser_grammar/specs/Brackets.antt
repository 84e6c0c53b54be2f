-- A contract of a public call rests on this: the brackets of a file (JLS 3.11), and what stands outside of them.
use Rattle.std.specs.Prelude.{ℕ, suc, ◌-◌, ◌&&◌, ◌||◌, Bool, List, [], ◌∷◌, Option, Some, None, nat_lt, codes}
use Rattle.std.specs.Prelude.{if◌then◌else◌}
use Rattle.racer_base.specs.declared.limits.TheConstants.{MAX_BRACKET_NESTING}
use Rattle.racer_base.specs.declared.ids.Place.{Place}
use Rattle.java_lexer.specs.declared.token.Token.{Token}
use Rattle.java_parser_grammar.specs.Tokens.{is_sign_token}

abbrev pub is_opening : Token → Bool
is_opening t = is_sign_token (codes "(") t || (is_sign_token (codes "[") t || is_sign_token (codes "{") t)

abbrev pub is_closing : Token → Bool
is_closing t = is_sign_token (codes ")") t || (is_sign_token (codes "]") t || is_sign_token (codes "}") t)

-- whether the second bracket closes the first
abbrev pub is_pair : Token → Token → Bool
is_pair o c =
    (is_sign_token (codes "(") o && is_sign_token (codes ")") c) || ((is_sign_token (codes "[") o && is_sign_token
    (codes "]") c)
    || (is_sign_token (codes "{") o && is_sign_token (codes "}") c))

-- ---- faults

abbrev pub closed : List Token → Token → Option (List Token)
closed [] t = None
closed (o ∷ os) t = if is_pair o t then Some os else None

-- the brackets that are open behind one more token, the innermost first; none where it closes another than the
-- innermost
abbrev pub opened : List Token → Token → Option (List Token)
opened os t = if is_opening t then Some (t ∷ os) else (if is_closing t then closed os t else Some os)

-- where these brackets are open: the first closing one that does not match the innermost; where the file ends first,
-- the innermost
abbrev pub unbalanced : List Token → List Token → Option Place
unbalanced [] [] = None
unbalanced (o ∷ os) [] = Some o.place
unbalanced os (t ∷ ts) = elim (opened os t) [ None ↦ Some t.place | (Some more) ↦ unbalanced more ts ]

-- how many brackets are open behind one more token
abbrev pub depth_behind : ℕ → Token → ℕ
depth_behind n t = if is_opening t then suc n else (if is_closing t then n - 1 else n)

-- where so many brackets are open: the first that is one more than may be
abbrev pub too_deep : ℕ → List Token → Option Place
too_deep n [] = None
too_deep n (t ∷ ts) =
    if nat_lt MAX_BRACKET_NESTING (depth_behind n t) then Some t.place else too_deep (depth_behind n t) ts
