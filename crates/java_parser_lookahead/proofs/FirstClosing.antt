-- A `)` that is the first parenthesis behind a `(` closes it, and so decides between a lambda, a cast and parentheses.
use Rattle.std.proofs.Common.{◌≡◌, Bool, true, false, not, ◌&&◌, ◌||◌, cond, List, [], ◌∷◌, Some, None, refl, codes}
use Rattle.std.proofs.Common.{◌-◌, ◌≤◌, length, map, get_or, take, drop, bytes_eq, arith}
use Rattle.std.proofs.Math.Seq.{take-length}
use Rattle.java_lexer.specs.declared.token.Token.{Token}
use Rattle.java_lexer.specs.declared.token.TokenKind.{TokenKind}
use Rattle.java_lexer.specs.declared.token.TokenKind.TheVariants as kind
use Rattle.java_tree.specs.declared.words.Spelled.{Spelled}
use Rattle.java_tree.specs.Brackets.{is_sign_kind, is_name_kind, is_sign, is_word_name}
use Rattle.java_parser_grammar.specs.Leads.{behind, is_plain_cast, opens_operand, opens_signed, casts}
use Rattle.java_parser_grammar.specs.Leads.{begins_lambda, begins_with}
use Rattle.java_parser_types.specs.Tokens.{spelled}
use Rattle.java_parser_lookahead.specs.FirstParenthesis.{behind_first}

closes_at : (b c : Bool) (ts r : List Spelled) → (behind_first ts ≡ Some r → behind 0 ts ≡ r)
    → cond b None (cond c (Some ts) (behind_first ts)) ≡ Some r → cond b (behind 1 ts) (cond c ts (behind 0 ts)) ≡ r
closes_at true c ts r later e = absurd cc
closes_at false true ts r later e = cc
closes_at false false ts r later e = later e

pub closes : (ts r : List Spelled) → behind_first ts ≡ Some r → behind 0 ts ≡ r
unfolding behind behind_first
closes [] r e = absurd cc
closes (t ∷ ts) r e = closes_at (is_sign (codes "(") t) (is_sign (codes ")") t) ts r (closes ts r) e

-- the choice between a cast and parentheses
pub first_decides : (ts r : List Spelled) → behind_first ts ≡ Some r
    → casts ts ≡ (opens_operand r || (is_plain_cast ts && opens_signed r))
unfolding casts
first_decides ts r e = rw (closes ts r e) refl

-- ---- a lambda or parentheses

unnamed_sign : (k : TokenKind) (b c : Bool) → (is_sign_kind k && b) ≡ true → (is_name_kind k && c) ≡ false
unnamed_sign kind.Sign b c e = refl
unnamed_sign _ b c e = absurd cc

arrow_decides : (t : Spelled) (ts r : List Spelled) → is_sign (codes "(") t ≡ true → behind_first ts ≡ Some r
    → begins_lambda (t ∷ ts) ≡ begins_with (codes "->") r
unfolding begins_lambda
arrow_decides t ts r opens first =
    let unnamed : is_word_name t ≡ false =
    unnamed_sign t.kind (not t.glued && bytes_eq t.text (codes "(")) (not t.glued) opens in
    rw (unnamed, opens, closes ts r first) refl

-- an arrow behind the first `)` makes a lambda of what the `(` in front begins
pub lambda_decides : (ts : List Token) (t : Token) (r : List Spelled) → 1 ≤ length ts → t ≡ get_or ts 0 t
    → is_sign (codes "(") (spelled t) ≡ true
    → behind_first (map spelled (take (length ts - 1) (drop 1 ts))) ≡ Some r
    → begins_lambda (map spelled ts) ≡ begins_with (codes "->") r
lambda_decides [] t r some is opens first = absurd (omega arith)
lambda_decides (u ∷ ts) t r some is opens first =
    let n : length (u ∷ ts) - 1 ≡ length ts = omega arith in
    let all : take (length (u ∷ ts) - 1) ts ≡ ts = rw n (take-length ts) in
    arrow_decides (spelled u) (map spelled ts) r (rw is at opens) (rw all at first)
