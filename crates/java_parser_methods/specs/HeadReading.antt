-- No public contract rests on this: reading parts of statements by themselves: the head of a `for` from its `(` to
-- its `)`, and what stands behind the
-- first statement of an `if`.
use Rattle.std.specs.Prelude.{ℕ, List, Option, Some, codes, if◌then◌else◌}
use Rattle.java_tree.specs.declared.words.Spelled.{Spelled}
use Rattle.java_tree.specs.Trees.{Modifier, Ty, Expr, Exprs, pack_exprs, Start, Declares, Runs, Stmt, If, IfElse, For}
use Rattle.java_tree.specs.Trees.{ForEach}
use Rattle.java_parser_grammar.specs.BalancedReading.{Reading}
use Rattle.java_parser_grammar.specs.Taking.{◌>>=◌, match_option, after_sign, after_keyword}
use Rattle.java_parser_grammar.specs.Readers.{Readers}
use Rattle.java_parser_grammar.specs.Lookahead.{looks_local, name_and_colon}
use Rattle.java_parser_grammar.specs.StatementReading.{expr_until, runs_until, body_at}
use Rattle.java_parser_methods.specs.LocalReading.{variables_with}
use Rattle.java_parser_methods.specs.TypedReading.{typed_at}

-- what stands in the parentheses of a `for`
pub data Head : Type 0 where
  Counted : Start → Option Expr → Exprs → Head
  Each : (List Modifier × Ty) × List ℕ → Expr → Head

-- the `for` of this head and body
abbrev pub for_of : Head → Stmt → Stmt
for_of (Counted start condition updates) s = For start condition updates s
for_of (Each x e) s = ForEach x.0.0 x.0.1 x.1 e s

module _ (readers : Readers) where
  -- from the first `;` on
  unfoldable pub counted_head_at : ℕ → Start → Reading Head
  counted_head_at n start ts = do
    a ← after_sign (codes ";") ts
    condition ← expr_until readers n (codes ";") a
    b ← after_sign (codes ";") condition.1
    updates ← runs_until readers n (codes ")") b
    c ← after_sign (codes ")") updates.1
    Some (Counted start condition.0 (pack_exprs updates.0), c)

  -- of this variable, from behind the `:` on
  unfoldable pub each_head_at : ℕ → (List Modifier × Ty) × List ℕ → Reading Head
  each_head_at n x ts = do
    e ← readers.expr n 0 ts
    r ← after_sign (codes ")") e.1
    Some (Each x e.0, r)

  -- from behind the type of its variables on
  abbrev pub declared_head_at : ℕ → List Modifier × Ty → Reading Head
  declared_head_at n front ts = match_option (name_and_colon ts) (do
    l ← variables_with readers n front ts
    counted_head_at n (Declares l.0) l.1) (λ x. each_head_at n (front, x.0) x.1)

  -- with a declaration in front
  unfoldable pub typed_head_at : ℕ → Reading Head
  typed_head_at n ts = do
    front ← typed_at readers n ts
    declared_head_at n front.0 front.1

  -- with expressions in front, or nothing
  unfoldable pub run_head_at : ℕ → Reading Head
  run_head_at n ts = do
    es ← runs_until readers n (codes ";") ts
    counted_head_at n (Runs (pack_exprs es.0)) es.1

  unfoldable pub head_at : ℕ → Reading Head
  head_at n ts = do
    r ← after_sign (codes "(") ts
    if looks_local r then typed_head_at n r else run_head_at n r

  -- a `for` behind its head
  abbrev pub headed_with : Reading Stmt → Head × List Spelled → Option (Stmt × List Spelled)
  headed_with read h = do
    s ← body_at readers read h.1
    Some (for_of h.0 s.0, s.1)

  -- a `for` by its head
  abbrev pub headed_at : Reading Stmt → ℕ → Reading Stmt
  headed_at read n ts = head_at n ts >>= headed_with read

  -- an `if` behind its first statement
  abbrev pub else_at : Reading Stmt → Expr → Stmt → Reading Stmt
  else_at read e s ts = match_option (after_keyword (codes "else") ts) (Some (If e s, ts)) (λ r. do
    t ← body_at readers read r
    Some (IfElse e s t.0, t.1))
