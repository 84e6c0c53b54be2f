-- A contract of a public call rests on this: the readers that statements and methods are read with.
use Rattle.std.specs.Prelude.{ℕ}
use Rattle.java_tree.specs.Trees.{Ty, Expr, Init}
use Rattle.java_parser_grammar.specs.BalancedReading.{Reading}

-- each takes the nesting that is left, and gives what was read and the tokens behind it
pub record Readers : Type 0 where
  -- an expression of at least this level
  pub expr : ℕ → (level : ℕ) → Reading Expr
  pub ty : ℕ → Reading Ty
  -- what a variable begins with
  pub init : ℕ → Reading Init
