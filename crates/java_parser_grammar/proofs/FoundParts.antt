-- The parts of statements are read: declarations, conditions and expressions that are run.
use Rattle.std.proofs.Common.{IsTrue}
use Rattle.std.proofs.Common.{◌≡◌, ℕ, zero, suc, ◌≤◌, true, false, List, [], ◌∷◌, length, Option, Some, None, codes}
use Rattle.std.proofs.Common.{refl}
use Rattle.std.proofs.Common.{arith}
use Rattle.java_tree.specs.declared.words.Spelled.{Spelled}
use Rattle.java_tree.specs.Words.{sign}
use Rattle.java_tree.specs.Trees.{Ty, Expr, Exprs, no_expr, expr_then, Init, Modifier, Variable, Locals}
use Rattle.java_tree.specs.Spelling.{commas_onto, brackets_onto, expr_onto, exprs_onto, more_exprs_onto}
use Rattle.java_tree.specs.Spelling.{maybe_expr_onto, maybe_init_onto, variable_onto, locals_onto}
use Rattle.java_tree.specs.FormedModifiers.{Each, has_some, FormedVariableModifiers}
use Rattle.java_tree.specs.Formed.{FormedTy, FormedExpr, FormedMaybeExpr, FormedRun, FormedRuns}
use Rattle.java_tree.specs.Formed.{FormedMaybeInit, FormedVariable, FormedLocals}
use Rattle.java_tree.specs.Nesting.{most_over, ty_nesting, expr_nesting, exprs_nesting, maybe_expr_nesting}
use Rattle.java_tree.specs.Nesting.{maybe_init_nesting, variable_nesting, locals_nesting}
use Rattle.java_parser_grammar.specs.Taking.{◌>>=◌, match_option, after_sign}
use Rattle.java_parser_grammar.specs.TypeReading.{after_brackets}
use Rattle.java_parser_grammar.specs.Readers.{Readers}
use Rattle.java_parser_grammar.specs.Leads.{begins_with}
use Rattle.java_parser_grammar.specs.Lookahead.{name_and_colon}
use Rattle.java_parser_grammar.specs.StatementReading.{comma_list}
use Rattle.java_parser_grammar.specs.StatementReading.{variable_at, variables_at, locals_at, condition_at}
use Rattle.java_parser_grammar.specs.StatementReading.{expr_until, run_at, runs_until}
use Rattle.java_parser_grammar.proofs.FindingReaders.{Finds}
use Rattle.java_parser_grammar.proofs.FoundLists.{IsRead, EndsList, list_found, unpack_exprs, exprs_listed}
use Rattle.java_parser_grammar.proofs.Lengths.{longer}
use Rattle.java_parser_grammar.proofs.LongerStatements.{variable_longer}
use Rattle.java_parser_grammar.proofs.StatementFronts.{Starts, starts}
use Rattle.java_parser_grammar.proofs.Annotations.{before_type_found}
use Rattle.java_parser_grammar.proofs.FoundTypes.{brackets_found}
use Rattle.java_parser_grammar.proofs.TypeFronts.{brackets_longer}

no_colon_behind : (x : List ℕ) (m : ℕ) (i : Option Init) (vs : List Variable) (r : List Spelled) → name_and_colon
    (commas_onto variable_onto (record { name = x; arrays = m; initialiser = i } ∷ vs) (sign (codes ";") ∷ r)) ≡ None
no_colon_behind x (suc m) i vs r = refl
no_colon_behind x zero None [] r = refl
no_colon_behind x zero None (v ∷ vs) r = refl
no_colon_behind x zero (Some i) vs r = refl

-- a declared variable behind its type is not followed by `:`
pub no_colon : (v : Variable) (vs : List Variable) (r : List Spelled) → name_and_colon (commas_onto variable_onto (v
    ∷ vs) (sign (codes ";") ∷ r)) ≡ None
no_colon v vs r = no_colon_behind v.name v.arrays v.initialiser vs r

-- a sign that ends an expression and begins none
pub record IsEnd (EndsExpr : List Spelled → Type 0) (end : List ℕ) : Type 0 where
  pub here : (r : List Spelled) → begins_with end (sign end ∷ r) ≡ true
  pub no_tree : (ts : List Spelled) → Starts ts → begins_with end ts ≡ false
  pub no_comma : (r : List Spelled) → after_sign (codes ",") (sign end ∷ r) ≡ None
  pub ends : (r : List Spelled) → EndsExpr (sign end ∷ r)

module _ (readers : Readers) (EndsTy EndsExpr : List Spelled → Type 0) (finds : Finds readers EndsTy EndsExpr) where
  -- ---- variables

  -- what ends a variable
  pub record EndsVariable (rest : List Spelled) : Type 0 where
    pub expr : EndsExpr rest
    pub no_equals : after_sign (codes "=") rest ≡ None
    pub no_brackets : after_brackets rest ≡ None

  no_brackets_behind : (i : Option Init) (r : List Spelled) → EndsVariable r → after_brackets (maybe_init_onto i r)
      ≡ None
  no_brackets_behind None r e = e.no_brackets
  no_brackets_behind (Some i) r e = refl

  initialised_found : (x : List ℕ) (m : ℕ) (i : Option Init) (n : ℕ) (r : List Spelled) → FormedMaybeInit i
      → maybe_init_nesting i ≤ n → EndsVariable r → match_option {B = Option (Variable × List Spelled)}
      (after_sign (codes "=") (maybe_init_onto i r)) (Some (
        record { name = x; arrays = m; initialiser = None },
        maybe_init_onto i r,
      )) (λ s. do
        j ← readers.init n s
        Some (record { name = x; arrays = m; initialiser = Some j.0 }, j.1)) ≡ Some (
          record { name = x; arrays = m; initialiser = i },
          r,
        )
  initialised_found x m None n r f fits e = rw e.no_equals refl
  initialised_found x m (Some i) n r f fits e = rw (finds.init i f n r fits e.expr) refl

  named_found : (x : List ℕ) (m : ℕ) (i : Option Init) (n : ℕ) (r : List Spelled) → FormedMaybeInit i
      → maybe_init_nesting i ≤ n → EndsVariable r
      → variable_at readers n (variable_onto (record { name = x; arrays = m; initialiser = i }) r) ≡ Some
      (record { name = x; arrays = m; initialiser = i }, r)
  unfolding variable_at
  named_found x m i n r f fits e =
      let s = maybe_init_onto i r in
      rw (brackets_found (length (brackets_onto m s)) m s (omega (arith, brackets_longer m s)) (no_brackets_behind i r
      e)) (initialised_found x m i n r f fits e)

  variables_read : (vs : List Variable) (n : ℕ) → Each FormedVariable vs → most_over variable_nesting vs ≤ n
      → Each (IsRead variable_onto (variable_at readers n) EndsVariable) vs
  variables_read [] n f fits = tt
  variables_read (v ∷ vs) n f fits = (
    record {
      found = λ r e. named_found v.name v.arrays v.initialiser n r f.0 (omega arith) e;
      longer = variable_longer v f.0;
      behind = λ r e. record { expr = finds.variable_ends v r e.expr; no_equals = refl; no_brackets = refl };
    },
    variables_read vs n f.1 (omega arith),
  )

  -- variables with commas between them, also at the end of the tokens
  pub listed_found : (vs : List Variable) (n : ℕ) (rest : List Spelled) → IsTrue (has_some vs)
      → Each FormedVariable vs → most_over variable_nesting vs ≤ n → EndsExpr rest
      → after_sign (codes "=") rest ≡ None → after_sign (codes ",") rest ≡ None
      → comma_list (variable_at readers n) (commas_onto variable_onto vs rest) ≡ Some (vs, rest)
  listed_found vs n rest some f fits ends no_equals no_comma =
      let ends_list : EndsList EndsVariable rest = record {
        here = record { expr = ends; no_equals = no_equals; no_brackets = finds.no_brackets rest ends };
        no_comma = no_comma;
      } in
      list_found variable_onto (variable_at readers n) EndsVariable vs rest some (variables_read vs n f fits) ends_list

  pub variables_found : (ms : List Modifier) (t : Ty) (vs : List Variable) (n : ℕ) (r : List Spelled)
      → IsTrue (has_some vs) → Each FormedVariable vs → most_over variable_nesting vs ≤ n
      → variables_at readers n ms t (commas_onto variable_onto vs (sign (codes ";") ∷ r))
      ≡ Some (record { modifiers = ms; kind = t; variables = vs }, sign (codes ";") ∷ r)
  unfolding variables_at
  variables_found ms t vs n r some f fits =
      rw (listed_found vs n (sign (codes ";") ∷ r) some f fits (finds.semicolon_ends r) refl refl) refl

  declared_found : (ms : List Modifier) (t : Ty) (vs : List Variable) (n : ℕ) (r : List Spelled)
      → FormedVariableModifiers ms → FormedTy t → IsTrue (has_some vs) → Each FormedVariable vs → ty_nesting t ≤ n
      → most_over variable_nesting vs ≤ n
      → locals_at readers n (locals_onto (record { modifiers = ms; kind = t; variables = vs }) (sign (codes ";")
      ∷ r)) ≡ Some (record { modifiers = ms; kind = t; variables = vs }, sign (codes ";") ∷ r)
  unfolding locals_at
  declared_found ms t [] n r b f some g fits small = absurd cc
  declared_found ms t (v ∷ vs) n r b f some g fits small =
      let behind = commas_onto variable_onto (v ∷ vs) (sign (codes ";") ∷ r) in
      rw (
        before_type_found ms t behind b f,
        finds.ty t f n behind fits (finds.name_ends_ty _ _),
      ) (variables_found ms t (v ∷ vs) n r some g small)

  pub locals_found : (l : Locals) (n : ℕ) (r : List Spelled) → FormedLocals l → locals_nesting l ≤ n
      → locals_at readers n (locals_onto l (sign (codes ";") ∷ r)) ≡ Some (l, sign (codes ";") ∷ r)
  locals_found l n r f fits =
      declared_found l.modifiers l.kind l.variables n r f.0 f.1 f.2 f.3 (omega arith) (omega arith)

  -- ---- expressions

  pub semicolon_end : IsEnd EndsExpr (codes ";")
  semicolon_end = record {
    here = λ r. refl;
    no_tree = λ ts s. s.no_semicolon;
    no_comma = λ r. refl;
    ends = finds.semicolon_ends;
  }

  pub close_end : IsEnd EndsExpr (codes ")")
  close_end = record { here = λ r. refl; no_tree = λ ts s. s.no_close; no_comma = λ r. refl; ends = finds.close_ends }

  pub condition_found : (e : Expr) (n : ℕ) (r : List Spelled) → FormedExpr e → expr_nesting e ≤ n → condition_at
      readers n (sign (codes "(") ∷ expr_onto e (sign (codes ")") ∷ r)) ≡ Some (e, r)
  unfolding condition_at
  condition_found e n r f fits = rw (finds.expr e f n (sign (codes ")") ∷ r) fits (finds.close_ends r)) refl

  pub until_found : (end : List ℕ) → IsEnd EndsExpr end → (e : Option Expr) (n : ℕ) (r : List Spelled)
      → FormedMaybeExpr e → maybe_expr_nesting e ≤ n
      → expr_until readers n end (maybe_expr_onto e (sign end ∷ r)) ≡ Some (e, sign end ∷ r)
  until_found end is None n r f fits = rw (is.here r) refl
  until_found end is (Some e) n r f fits =
      rw (is.no_tree _ (starts e (sign end ∷ r) f), finds.expr e f n (sign end ∷ r) fits (is.ends r)) refl

  pub run_found : (e : Expr) (n : ℕ) (r : List Spelled) → FormedRun e → expr_nesting e ≤ n → EndsExpr r
      → run_at readers n (expr_onto e r) ≡ Some (e, r)
  run_found e n r f fits ends = rw (finds.expr e f.0 n r fits ends, f.1) refl

  runs_read : (es : Exprs) (n : ℕ) → FormedRuns es → exprs_nesting es ≤ n → Each (IsRead expr_onto (run_at readers n)
      EndsExpr) (unpack_exprs es)
  unfolding unpack_exprs
  runs_read no_expr n f fits = tt
  runs_read (expr_then e es) n f fits = (
    record {
      found = λ r ends. run_found e n r f.0 (omega arith) ends;
      longer = λ r. omega (arith, longer e f.0.0 r);
      behind = λ r ends. finds.comma_ends e f.0.0 r ends;
    },
    runs_read es n f.1 (omega arith),
  )

  ends_runs : (end : List ℕ) → IsEnd EndsExpr end → (r : List Spelled) → EndsList EndsExpr (sign end ∷ r)
  ends_runs end is r = record { here = is.ends r; no_comma = is.no_comma r }

  pub runs_found : (end : List ℕ) → IsEnd EndsExpr end → (es : Exprs) (n : ℕ) (r : List Spelled) → FormedRuns es
      → exprs_nesting es ≤ n
      → runs_until readers n end (exprs_onto es (sign end ∷ r)) ≡ Some (unpack_exprs es, sign end ∷ r)
  unfolding unpack_exprs
  runs_found end is no_expr n r f fits = rw (is.here r) refl
  runs_found end is (expr_then e es) n r f fits =
      rw (
        is.no_tree (exprs_onto (expr_then e es) (sign end ∷ r)) (starts e (more_exprs_onto es (sign end ∷ r))
            f.0.0),
        exprs_listed e es (sign end ∷ r),
      ) (list_found expr_onto (run_at readers n) EndsExpr
      (unpack_exprs (expr_then e es)) (sign end ∷ r) refl (runs_read (expr_then e es) n f fits) (ends_runs end is
      r))
