-- A contract of a public call rests on this: what the first token does behind an expression, and the choice between a
-- cast and parentheses.
use Rattle.std.specs.Prelude.{ℕ, suc, Bool, true, false, not, ◌&&◌, ◌||◌, List, [], ◌∷◌, codes, bytes_eq}
use Rattle.std.specs.Prelude.{if◌then◌else◌}
use Rattle.racer_base.specs.Name.{is_listed}
use Rattle.java_lexer.specs.declared.token.TokenKind.{TokenKind}
use Rattle.java_lexer.specs.declared.token.TokenKind.TheVariants as kind
use Rattle.java_tree.specs.declared.words.Spelled.{Spelled}
use Rattle.java_tree.specs.Brackets.{is_sign_kind, is_sign, is_some_and, is_word_name}
use Rattle.java_tree.specs.Operators.{assignment_level, conditional_level, relational_level, postfix_level}
use Rattle.java_tree.specs.Operators.{primary_level, binary_level, is_assignment, is_step, is_signed}
use Rattle.java_parser_grammar.specs.Taking.{match_option, match_number, after_sign, after_glued}
use Rattle.java_parser_grammar.specs.TypeReading.{opens, opens_word, after_plain}

-- what a first token begins behind an expression, and the tokens behind it
pub data Lead : Type 0 where
  -- an assignment
  Assigns : (operator : List ℕ) → List Spelled → Lead
  -- `?`
  Asks : List Spelled → Lead
  -- a binary operator
  Joins : (operator : List ℕ) → List Spelled → Lead
  -- `instanceof`
  Tests : List Spelled → Lead
  -- `++` or `--`
  Steps : (operator : List ℕ) → List Spelled → Lead
  -- `.`
  Selects : List Spelled → Lead
  -- `[`
  Indexes : List Spelled → Lead
  -- `::`
  Refers : List Spelled → Lead
  -- an operand, which goes on with no expression
  Opens : Lead
  -- `->` or `{`, before which no whole expression stands
  Binds : Lead
  -- none of these
  Ends : Lead

-- the binary operators that are one token and do not begin with `>`, and `>=`
abbrev pub one_sign_operators : List (List ℕ)
one_sign_operators =
    codes "||" ∷ codes "&&" ∷ codes "|" ∷ codes "^" ∷ codes "&" ∷ codes "==" ∷ codes "!=" ∷ codes "<" ∷ codes "<="
    ∷ codes ">=" ∷
    codes "<<" ∷ codes "+" ∷ codes "-" ∷ codes "*" ∷ codes "/" ∷ codes "%" ∷ []

-- behind a `>`: the shifts have one or two glued `>` there
abbrev pub lead_of_angle : List Spelled → Lead
lead_of_angle ts =
    match_option (after_glued ts) (Joins (codes ">") ts) (λ r. match_option (after_glued r) (Joins (codes ">>") r)
    (λ s. Joins (codes ">>>") s))

-- the signs behind the parameters of a lambda and behind the arguments of an anonymous class (JLS 15.27, 15.9.5)
abbrev pub binds : List ℕ → Bool
binds text = is_listed (codes "->" ∷ codes "{" ∷ []) text

abbrev pub lead_of_sign : List ℕ → List Spelled → Lead
lead_of_sign text ts =
    if is_assignment text then Assigns text ts
    else (if is_listed one_sign_operators text then Joins text ts
    else (if is_step text then Steps text ts
    else (if bytes_eq text (codes ">") then lead_of_angle ts
    else (if bytes_eq text (codes "?") then Asks ts
    else (if bytes_eq text (codes ".") then Selects ts
    else (if bytes_eq text (codes "[") then Indexes ts
    else (if bytes_eq text (codes "::") then Refers ts
    else (if binds text then Binds
    else (if opens text then Opens else Ends)))))))))

abbrev pub lead_of_word : TokenKind → List ℕ → List Spelled → Lead
lead_of_word kind.Keyword text ts =
    if bytes_eq text (codes "instanceof") then Tests ts
    else (if opens_word text then Opens else Ends)
lead_of_word kind.Sign text ts = lead_of_sign text ts
lead_of_word _ text ts = Opens

unfoldable pub lead : List Spelled → Lead
lead [] = Ends
lead (t ∷ ts) = if t.glued then Ends else lead_of_word t.kind t.text ts

-- of `.`, which goes on with every primary expression
abbrev pub point_pull : ℕ
point_pull = suc primary_level

-- of `[`, which goes on with every primary expression but an array creation (JLS 15.10.3)
abbrev pub bracket_pull : ℕ
bracket_pull = suc point_pull

-- of an operand, which goes on with no expression
abbrev pub operand_pull : ℕ
operand_pull = suc bracket_pull

-- how strongly it goes on with the expression before it: of an operator one more than the level of what it makes, and
-- none where it may follow every expression
abbrev pub pull_of : Lead → ℕ
pull_of (Assigns op r) = suc assignment_level
pull_of (Asks r) = suc conditional_level
pull_of (Joins op r) = suc (binary_level op)
pull_of (Tests r) = suc relational_level
pull_of (Steps op r) = suc postfix_level
pull_of (Selects r) = point_pull
pull_of (Indexes r) = bracket_pull
pull_of (Refers r) = point_pull
pull_of Binds = operand_pull
pull_of Opens = operand_pull
pull_of Ends = 0

-- how strongly the first token goes on with an expression before it
abbrev pub pull : List Spelled → ℕ
pull ts = pull_of (lead ts)

-- ---- a lambda, a cast or parentheses (JLS 15.16, 15.27)

abbrev pub is_opens : Lead → Bool
is_opens Opens = true
is_opens _ = false

-- begins an operand, and goes on with no expression
abbrev pub opens_operand : List Spelled → Bool
opens_operand ts = is_opens (lead ts)

abbrev pub is_ends : Lead → Bool
is_ends Ends = true
is_ends _ = false

-- begins with nothing that an expression before it goes on with
abbrev pub ends_expression : List Spelled → Bool
ends_expression ts = is_ends (lead ts)

-- begins with `+`, `-`, `++` or `--`
abbrev pub opens_signed : List Spelled → Bool
opens_signed [] = false
opens_signed (t ∷ ts) = is_sign_kind t.kind && (not t.glued && is_signed t.text)

-- whether this sign stands in front
abbrev pub begins_with : List ℕ → List Spelled → Bool
begins_with text [] = false
begins_with text (t ∷ ts) = is_sign text t

-- the tokens behind the `)` that closes one more than `depth` open parentheses
unfoldable pub behind : ℕ → List Spelled → List Spelled
behind depth [] = []
behind depth (t ∷ ts) =
    if is_sign (codes "(") t then behind (suc depth) ts
    else (if is_sign (codes ")") t then match_number depth ts (λ d. behind d ts) else behind depth ts)

-- whether a lambda begins here: a name, or parentheses, and `->` behind it
unfoldable pub begins_lambda : List Spelled → Bool
begins_lambda [] = false
begins_lambda (t ∷ ts) =
    (is_word_name t && begins_with (codes "->") ts) || (is_sign (codes "(") t && begins_with (codes "->") (behind 0 ts))

-- the word of a primitive type and `)`
abbrev pub is_plain_cast : List Spelled → Bool
is_plain_cast ts = is_some_and (after_plain ts) (λ p. is_some_and (after_sign (codes ")") p.1) (λ r. true))

-- whether the tokens behind a `(` are those of a cast
unfoldable pub casts : List Spelled → Bool
casts ts = opens_operand (behind 0 ts) || (is_plain_cast ts && opens_signed (behind 0 ts))
