-- No public contract rests on this: how many tokens the first piece has.
use Rattle.std.specs.Prelude.{ℕ, suc, ◌&&◌, List, [], ◌∷◌, Option, Some, None, codes, if◌then◌else◌}
use Rattle.java_lexer.specs.declared.token.Token.{Token}
use Rattle.java_parser_grammar.specs.Tokens.{is_sign_token, is_name, begins_sign}
use Rattle.java_parser.specs.Sizes.{item_size}

-- how many tokens the parentheses in front have
abbrev pub parentheses_size : List Token → ℕ
parentheses_size ts = if begins_sign (codes "(") ts then item_size 0 ts else 0

-- how many tokens go on with an annotation behind one of its names
abbrev pub annotation_size : List Token → ℕ
annotation_size [] = 0
annotation_size (p ∷ []) = parentheses_size (p ∷ [])
annotation_size (p ∷ n ∷ ts) =
    if is_sign_token (codes ".") p && is_name n then suc (suc (annotation_size ts)) else parentheses_size (p ∷ n ∷ ts)

-- the tokens behind a point and a name
abbrev pub behind_name : List Token → Option (List Token)
behind_name (p ∷ n ∷ ts) = if is_sign_token (codes ".") p && is_name n then Some ts else None
behind_name _ = None

-- the tokens behind the `@` and the first name of an annotation
abbrev pub behind_at : List Token → Option (List Token)
behind_at (a ∷ n ∷ ts) = if is_sign_token (codes "@") a && is_name n then Some ts else None
behind_at _ = None

abbrev pub piece_by : Option (List Token) → List Token → ℕ
piece_by None ts = item_size 0 ts
piece_by (Some behind) ts = suc (suc (annotation_size behind))

abbrev pub piece_size : List Token → ℕ
piece_size ts = piece_by (behind_at ts) ts
