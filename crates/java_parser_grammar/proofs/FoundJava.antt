-- Each formed statement and method is read by the readers of expressions, types and what variables begin with.
use Rattle.std.proofs.Common.{◌≡◌, ℕ, ◌≤◌, List, [], ◌∷◌, Option, Some, None, refl, ◌∙◌, codes, arith}
use Rattle.java_tree.specs.declared.words.Spelled.{Spelled}
use Rattle.java_tree.specs.Trees.{Init, Stmt, Method}
use Rattle.java_tree.specs.Words.{identifier, sign}
use Rattle.java_tree.specs.Spelling.{brackets_onto, expr_onto, init_onto, maybe_init_onto, variable_onto, stmt_onto}
use Rattle.java_tree.specs.Spelling.{spelling}
use Rattle.java_tree.specs.FormedMethods.{FormedMethod}
use Rattle.java_tree.specs.Formed.{FormedStmt}
use Rattle.java_tree.specs.Nesting.{stmt_nesting, method_nesting}
use Rattle.java_parser_grammar.specs.TypeReading.{EndsNoTypes}
use Rattle.java_parser_grammar.specs.Leads.{pull}
use Rattle.java_parser_grammar.specs.ExpressionReading.{LeavesTypes}
use Rattle.java_parser_grammar.specs.JavaReaders.{method_readers}
use Rattle.java_parser_grammar.specs.StatementReading.{stmt_at}
use Rattle.java_parser_grammar.specs.MethodReading.{method_at}
use Rattle.java_parser_grammar.proofs.FindingReaders.{Finds}
use Rattle.java_parser_grammar.proofs.FoundExpressions.{expression_found, init_found}
use Rattle.java_parser_grammar.proofs.FoundMethods.{method_found, one_method}
use Rattle.java_parser_grammar.proofs.FoundStatements.{stmt_found, one_statement}
use Rattle.java_parser_grammar.proofs.FoundTypes.{ty_found}
use Rattle.java_parser_grammar.proofs.ReadableRows.{Bears}
use Rattle.java_parser_grammar.proofs.Taken.{pull_close, pull_comma, pull_semicolon, pull_colon, no_brackets}
use Rattle.java_parser_grammar.proofs.Angles.{brackets_pass}
use Rattle.java_parser_grammar.proofs.NoAngles.{ends_no_types}
use Rattle.java_parser_grammar.proofs.TypeFronts.{EndsTy, ends_angle}

-- tokens that do not go on with an expression
pub record EndsExpr (rest : List Spelled) : Type 0 where
  pub pulls : pull rest ≤ 0
  pub types : LeavesTypes rest

-- a variable behind a comma
variable_leaves : (x : List ℕ) (m : ℕ) (i : Option Init) (r : List Spelled) → EndsNoTypes r → EndsNoTypes
    (identifier x ∷ brackets_onto m (maybe_init_onto i r))
variable_leaves x m None r ends l d = brackets_pass m l d r ∙ ends l d
variable_leaves x m (Some i) r ends l d = brackets_pass m l d (sign (codes "=") ∷ init_onto i r)

pub java_finds : Finds method_readers EndsTy EndsExpr
java_finds = record {
  expr = λ e f n rest fits ends.
      expression_found e f n 0 rest fits (omega arith) ends.pulls (λ o. ends.pulls) ends.types;
  conditional = λ e f low n rest fits ends.
      expression_found e f n 1 rest fits low (omega (arith, ends.pulls)) (λ o. ends.pulls) ends.types;
  ty = ty_found;
  init = λ i f n rest fits ends. init_found i f n rest fits ends.pulls ends.types;
  name_ends_ty = λ x r. record { less = refl; point = refl; brackets = refl };
  comma_ends_ty = λ r. record { less = refl; point = refl; brackets = refl };
  bar_ends_ty = λ r. record { less = refl; point = refl; brackets = refl };
  and_ends_ty = λ r. record { less = refl; point = refl; brackets = refl };
  angle_ends_ty = ends_angle;
  points_end_ty = λ r. record { less = refl; point = refl; brackets = refl };
  brace_ends_ty = λ r. record { less = refl; point = refl; brackets = refl };
  close_ends = λ r. record { pulls = omega (arith, pull_close r); types = ((λ l. refl), (λ l d. refl), refl) };
  comma_ends = λ e f r ends. record {
    pulls = omega (arith, pull_comma (expr_onto e r));
    types = ((λ l. refl), ends_no_types e f r ends.types.1, refl);
  };
  variable_ends = λ v r ends. record {
    pulls = omega (arith, pull_comma (variable_onto v r));
    types = ((λ l. refl), variable_leaves v.name v.arrays v.initialiser r ends.types.1, refl);
  };
  no_brackets = λ r ends. no_brackets r (omega (arith, ends.pulls));
  colon_ends = λ r. record { pulls = omega (arith, pull_colon r); types = ((λ l. refl), (λ l d. refl), refl) };
  semicolon_ends = λ r. record { pulls = omega (arith, pull_semicolon r); types = ((λ l. refl), (λ l d. refl), refl) };
}

pub statement_is_read : (s : Stmt) (n : ℕ) (rest : List Spelled) → FormedStmt s → stmt_nesting s ≤ n → Bears s rest
    → stmt_at method_readers n (stmt_onto s rest) ≡ Some (s, rest)
statement_is_read = stmt_found method_readers EndsTy EndsExpr java_finds

pub one_java_statement : (a b : Stmt) → FormedStmt a → FormedStmt b → stmt_onto a [] ≡ stmt_onto b [] → a ≡ b
one_java_statement = one_statement method_readers EndsTy EndsExpr java_finds

pub method_is_read : (m : Method) (n : ℕ) → FormedMethod m → method_nesting m ≤ n → method_at method_readers n
    (spelling m) ≡ Some m
method_is_read = method_found method_readers EndsTy EndsExpr java_finds

pub one_java_method : (a b : Method) → FormedMethod a → FormedMethod b → spelling a ≡ spelling b → a ≡ b
one_java_method = one_method method_readers EndsTy EndsExpr java_finds
