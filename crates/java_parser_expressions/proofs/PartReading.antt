-- What is read where a lambda may stand: the lambda, or an operand and its turns.
use Rattle.std.proofs.Common.{◌≡◌, ℕ, suc, true, false, List, Some, None, refl}
use Rattle.std.specs.Prelude.{nat_le}
use Rattle.java_tree.specs.declared.words.Spelled.{Spelled}
use Rattle.java_tree.specs.Operators.{assignment_level}
use Rattle.java_tree.specs.Trees.{Expr}
use Rattle.java_parser_grammar.specs.ExpressionReading.{read_at, operand_with, climb_with, array_at, lambda_with}
use Rattle.java_parser_grammar.specs.Leads.{begins_lambda}
use Rattle.java_parser_grammar.specs.TypeReading.{made_base_at}
use Rattle.java_parser_lookahead.specs.declared.lambdas.Lambdas as lambdas
use Rattle.java_parser_lookahead.specs.declared.lambdas.Lambdas.TheVariants as stand
use Rattle.java_parser_lookahead.specs.LambdaPlaces.{part_level}

-- what is read of a nesting of at most m, with one more around it
module _ (m l : ℕ) (ts : List Spelled) where
  one_on : (k : lambdas.Lambdas) (a : Expr × List Spelled) → begins_lambda ts ≡ false
      → operand_with (read_at m) m (made_base_at m) (array_at m) ts ≡ Some a
      → read_at (suc m) (part_level k l ts) ts ≡ climb_with (read_at m) m l (suc m) a.0 a.1
  unfolding read_at
  one_on stand.AsAssignments a none e = rw (none, e) refl
  one_on stand.Anywhere a none e = rw (none, e) refl

  one_fails : (k : lambdas.Lambdas) → begins_lambda ts ≡ false
      → operand_with (read_at m) m (made_base_at m) (array_at m) ts ≡ None
      → read_at (suc m) (part_level k l ts) ts ≡ None
  unfolding read_at
  one_fails k none e = rw (none, e) refl

  -- a lambda, where one may stand
  pub lambda_on : (k : lambdas.Lambdas) → begins_lambda ts ≡ true → nat_le (part_level k l ts) assignment_level ≡ true
      → read_at (suc m) (part_level k l ts) ts ≡ lambda_with (read_at m assignment_level) ts
  unfolding read_at
  lambda_on k begins low = rw (low, begins) refl

  -- where none may
  pub lambda_off : (k : lambdas.Lambdas) → begins_lambda ts ≡ true
      → nat_le (part_level k l ts) assignment_level ≡ false → read_at (suc m) (part_level k l ts) ts ≡ None
  unfolding read_at
  lambda_off k begins high = rw (high, begins) refl

-- the same by the nesting that is left
module _ (n m l : ℕ) (k : lambdas.Lambdas) (ts : List Spelled) (same : suc m ≡ n) where
  -- an operand and its turns
  pub operand_on : (a : Expr × List Spelled) → begins_lambda ts ≡ false
      → operand_with (read_at m) m (made_base_at m) (array_at m) ts ≡ Some a
      → read_at n (part_level k l ts) ts ≡ climb_with (read_at m) m l (suc m) a.0 a.1
  operand_on a none e = rw (← same) (one_on m l ts k a none e)

  -- none
  pub operand_fails : begins_lambda ts ≡ false
      → operand_with (read_at m) m (made_base_at m) (array_at m) ts ≡ None → read_at n (part_level k l ts) ts ≡ None
  operand_fails none e = rw (← same) (one_fails m l ts k none e)
