-- What a turn is, by whether the expression goes on with what the first token begins.
use Rattle.std.proofs.Common.{◌≡◌, ℕ, true, false, Option, Some, Result, refl}
use Rattle.java_tree.specs.Trees.{Expr, Postfix}
use Rattle.java_parser_grammar.specs.Leads.{Lead, Assigns, Asks, Joins, Tests, Steps, Selects, Indexes, Opens, Ends}
use Rattle.java_parser_grammar.specs.Leads.{Refers, Binds}
use Rattle.java_parser_grammar.specs.BalancedReading.{Reading}
use Rattle.java_parser_grammar.specs.ExpressionReading.{Turn, Stop, turn_with, grown, assign_with}
use Rattle.java_parser_grammar.specs.ExpressionReading.{conditional_with}
use Rattle.java_parser_grammar.specs.ExpressionReading.{binary_with, instance_with, select_with, index_with}
use Rattle.java_parser_grammar.specs.ExpressionReading.{refer_with}
use Rattle.java_parser_grammar.specs.ExpressionReading.{read_at}
use Rattle.java_parser_types.specs.declared.error.ReadError.{ReadError}
use Rattle.java_parser_types.specs.ReadAnswer.{Gives}
use Rattle.java_parser_types.proofs.ReadLoops.{ends_give}
use Rattle.java_parser_expressions.specs.declared.progress.Progress.{Progress}
use Rattle.java_parser_lookahead.specs.GoingOn.{goes_on}
use Rattle.java_parser_expressions.specs.TurnView.{turn_of}

-- a turn with this, where the expression goes on with it
abbrev pub turned : (ℕ → Reading Expr) → ℕ → Expr → Lead → Option Turn
turned read n a (Assigns op r) = assign_with read n a op r
turned read n a (Asks r) = conditional_with read n a r
turned read n a (Joins op r) = binary_with read n a op r
turned read n a (Tests r) = instance_with n a r
turned read n a (Steps op r) = grown n (Postfix a op) r
turned read n a (Selects r) = select_with read n a r
turned read n a (Indexes r) = index_with read n a r
turned read n a (Refers r) = refer_with n a r
turned read n a Opens = Some (Stop a)
turned read n a Binds = Some (Stop a)
turned read n a Ends = Some (Stop a)

module _ (read : ℕ → Reading Expr) (n l : ℕ) (a : Expr) where
  goes : (k : Lead) → goes_on l a k ≡ true → turn_with read n l a k ≡ turned read n a k
  unfolding turn_with
  goes (Assigns op r) e = rw e refl
  goes (Asks r) e = rw e refl
  goes (Joins op r) e = rw e refl
  goes (Tests r) e = rw e refl
  goes (Steps op r) e = rw e refl
  goes (Selects r) e = rw e refl
  goes (Indexes r) e = rw e refl
  goes (Refers r) e = rw e refl
  goes Opens e = refl
  goes Binds e = refl
  goes Ends e = refl

  stops : (k : Lead) → goes_on l a k ≡ false → turn_with read n l a k ≡ Some (Stop a)
  unfolding turn_with
  stops (Assigns op r) e = rw e refl
  stops (Asks r) e = rw e refl
  stops (Joins op r) e = rw e refl
  stops (Tests r) e = rw e refl
  stops (Steps op r) e = rw e refl
  stops (Selects r) e = rw e refl
  stops (Indexes r) e = rw e refl
  stops (Refers r) e = rw e refl
  stops Opens e = refl
  stops Binds e = refl
  stops Ends e = refl

  pub turn_goes : (k here : Lead) → k ≡ here → goes_on l a k ≡ true → turn_with read n l a here ≡ turned read n a k
  turn_goes k here same e = rw (← same) (goes k e)

  pub turn_stops : (k here : Lead) → k ≡ here → goes_on l a k ≡ false → turn_with read n l a here ≡ Some (Stop a)
  turn_stops k here same e = rw (← same) (stops k e)

-- what the code gives of the turn that goes on
pub turn_given : (r : Result Progress ReadError) (n l : ℕ) (a : Expr) (k here : Lead) → k ≡ here
    → goes_on l a k ≡ true → Gives turn_of r (turned (read_at n) n a k)
    → Gives turn_of r (turn_with (read_at n) n l a here)
turn_given r n l a k here same e given =
    ends_give turn_of r _ (turned (read_at n) n a k) (turn_goes (read_at n) n l a k here same e) given
