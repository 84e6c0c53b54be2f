-- No public contract rests on this: what is made of an expression by the sign behind it.
use Rattle.std.specs.Prelude.{ℕ, Bool, List, [], Option, Some, None, codes, if◌then◌else◌}
use Rattle.java_tree.specs.declared.words.Spelled.{Spelled}
use Rattle.java_tree.specs.Trees.{Expr, Init, Paren, Index, Lambda}
use Rattle.java_parser_grammar.specs.Taking.{◌>>=◌, after_sign}
use Rattle.java_parser_grammar.specs.BalancedReading.{Reading}
use Rattle.java_parser_grammar.specs.ExpressionReading.{Turn, grown, parens_with}
use Rattle.java_parser_grammar.specs.Leads.{ends_expression, opens_operand}

-- an expression in parentheses (JLS 15.8.5)
abbrev pub paren_end : Expr → Reading Expr
paren_end a ts = do
  r ← after_sign (codes ")") ts
  Some (Paren a, r)

-- in parentheses behind their `(`, where no operand stands behind them (JLS 15.16)
abbrev pub lone_parens_with : (ℕ → Reading Expr) → Reading Expr
lone_parens_with read ts = do
  x ← parens_with read ts
  if opens_operand x.1 then None else Some x

-- an element of an array (JLS 15.10.3)
abbrev pub index_end : ℕ → Expr → (index : Expr) → List Spelled → Option Turn
index_end n a i ts = do
  r ← after_sign (codes "]") ts
  grown n (Index a i) r

-- what was read, and the tokens behind it
abbrev pub as_read : {A : Type 0} → A → List Spelled → Option (A × List Spelled)
as_read a ts = Some (a, ts)

-- no further item, and the tokens behind the `}` in front
abbrev pub items_closed : (last_comma : Bool) → List Spelled → Option (List Init × Bool × List Spelled)
items_closed last_comma ts = do
  r ← after_sign (codes "}") ts
  Some ([], last_comma, r)

-- a lambda that gives this expression, which takes all that could go on with the lambda (JLS 15.27.2)
abbrev pub lambda_end : (parameters : List Spelled) → Expr → Reading Expr
lambda_end ps a ts = if ends_expression ts then Some (Lambda ps a, ts) else None
