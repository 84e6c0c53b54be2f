-- What readers must give: each formed expression, type and beginning of a variable, before what ends it.
use Rattle.std.proofs.Common.{◌≡◌, ℕ, ◌≤◌, Bool, List, ◌∷◌, Some, None, codes}
use Rattle.java_tree.specs.declared.words.Spelled.{Spelled}
use Rattle.java_tree.specs.Words.{identifier, sign, sign_glued}
use Rattle.java_tree.specs.Trees.{Ty, Expr, Init, Variable}
use Rattle.java_tree.specs.Spelling.{ty_onto, expr_onto, init_onto, variable_onto}
use Rattle.java_tree.specs.Operators.{conditional_level}
use Rattle.java_tree.specs.Formed.{FormedTy, FormedExpr, FormedInit, level}
use Rattle.java_tree.specs.Nesting.{ty_nesting, expr_nesting, init_nesting}
use Rattle.java_parser_grammar.specs.TypeReading.{after_brackets}
use Rattle.java_parser_grammar.specs.Readers.{Readers}

-- EndsTy is of the tokens that do not go on with a type, EndsExpr of those that do not go on with an expression
pub record Finds (readers : Readers) (EndsTy EndsExpr : List Spelled → Type 0) : Type 0 where
  pub expr : (e : Expr) → FormedExpr e → (n : ℕ) (rest : List Spelled) → expr_nesting e ≤ n → EndsExpr rest
      → readers.expr n 0 (expr_onto e rest) ≡ Some (e, rest)
  -- one that is no assignment
  pub conditional : (e : Expr) → FormedExpr e → conditional_level ≤ level e → (n : ℕ) (rest : List Spelled)
      → expr_nesting e ≤ n → EndsExpr rest → readers.expr n conditional_level (expr_onto e rest) ≡ Some (e, rest)
  pub ty : (t : Ty) → FormedTy t → (n : ℕ) (rest : List Spelled) → ty_nesting t ≤ n → EndsTy rest → readers.ty n
      (ty_onto t rest) ≡ Some (t, rest)
  pub init : (i : Init) → FormedInit i → (n : ℕ) (rest : List Spelled) → init_nesting i ≤ n → EndsExpr rest
      → readers.init n (init_onto i rest) ≡ Some (i, rest)
  pub name_ends_ty : (x : List ℕ) (r : List Spelled) → EndsTy (identifier x ∷ r)
  pub comma_ends_ty : (r : List Spelled) → EndsTy (sign (codes ",") ∷ r)
  pub bar_ends_ty : (r : List Spelled) → EndsTy (sign (codes "|") ∷ r)
  pub and_ends_ty : (r : List Spelled) → EndsTy (sign (codes "&") ∷ r)
  pub angle_ends_ty : (glued : Bool) (r : List Spelled) → EndsTy (sign_glued glued (codes ">") ∷ r)
  pub points_end_ty : (r : List Spelled) → EndsTy (sign (codes "...") ∷ r)
  pub brace_ends_ty : (r : List Spelled) → EndsTy (sign (codes "{") ∷ r)
  pub close_ends : (r : List Spelled) → EndsExpr (sign (codes ")") ∷ r)
  -- a comma ends one where what stands behind the comma does not go on with types
  pub comma_ends : (e : Expr) → FormedExpr e → (r : List Spelled) → EndsExpr r → EndsExpr (sign (codes ",")
      ∷ expr_onto e r)
  pub variable_ends : (v : Variable) (r : List Spelled) → EndsExpr r → EndsExpr (sign (codes ",") ∷ variable_onto v r)
  pub no_brackets : (r : List Spelled) → EndsExpr r → after_brackets r ≡ None
  pub colon_ends : (r : List Spelled) → EndsExpr (sign (codes ":") ∷ r)
  pub semicolon_ends : (r : List Spelled) → EndsExpr (sign (codes ";") ∷ r)
