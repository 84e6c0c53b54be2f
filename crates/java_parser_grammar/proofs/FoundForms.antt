-- The forms of statements that are no rows are read, over a reader of the statements inside.
use Rattle.std.proofs.Common.{◌≡◌, ℕ, zero, suc, ◌≤◌, ◌<◌, true, false, List, [], ◌∷◌, ◌++◌, length, Option}
use Rattle.std.proofs.Common.{Some, None, IsTrue, codes, refl, arith}
use Rattle.java_tree.specs.declared.words.Spelled.{Spelled}
use Rattle.java_tree.specs.Words.{keyword, identifier, sign}
use Rattle.java_tree.specs.Trees.{Ty, Expr, Exprs, no_expr, expr_then, Modifier, Variable, Locals, Start, Declares}
use Rattle.java_tree.specs.Trees.{Runs}
use Rattle.java_tree.specs.Trees.{Stmt, Local, Run, If, IfElse, For, ForEach, Labelled, LocalClass, Stmts, no_stmt}
use Rattle.java_tree.specs.Trees.{stmt_then}
use Rattle.java_tree.specs.Trees.{pack_stmts}
use Rattle.java_tree.specs.Spelling.{behind_commas, commas_onto, brackets_onto, modifiers_onto, ty_onto, expr_onto}
use Rattle.java_tree.specs.Spelling.{exprs_onto}
use Rattle.java_tree.specs.Spelling.{more_exprs_onto, maybe_expr_onto, maybe_init_onto, variable_onto, locals_onto}
use Rattle.java_tree.specs.Spelling.{start_onto, stmt_onto, stmts_onto}
use Rattle.java_tree.specs.FormedModifiers.{Each, has_some, FormedVariableModifiers}
use Rattle.java_tree.specs.Brackets.{are_class}
use Rattle.java_tree.specs.Formed.{FormedTy, FormedExpr, FormedMaybeExpr, FormedRun, FormedRuns}
use Rattle.java_tree.specs.Formed.{FormedVariable, FormedLocals, FormedStart, FormedStmts, is_body}
use Rattle.java_tree.specs.Nesting.{most_over, ty_nesting, expr_nesting, exprs_nesting, maybe_expr_nesting}
use Rattle.java_tree.specs.Nesting.{variable_nesting, locals_nesting, start_nesting}
use Rattle.java_parser_grammar.specs.BalancedReading.{Reading}
use Rattle.java_parser_grammar.specs.Taking.{after_keyword}
use Rattle.java_parser_grammar.specs.Readers.{Readers}
use Rattle.java_parser_grammar.specs.Lookahead.{looks_local, LabelWord, Other, statement_lead}
use Rattle.java_parser_grammar.specs.StatementReading.{stmts_at, braces_at, if_at, for_from, for_at, for_typed}
use Rattle.java_parser_grammar.specs.StatementReading.{for_run, each_from, local_at, run_line_at, simple_at}
use Rattle.java_parser_grammar.specs.StatementReading.{by_lead}
use Rattle.java_parser_grammar.proofs.FindingReaders.{Finds}
use Rattle.java_parser_grammar.proofs.FoundLists.{pack-unpack_exprs}
use Rattle.java_parser_grammar.proofs.FoundParts.{no_colon, semicolon_end, close_end, variables_found}
use Rattle.java_parser_grammar.proofs.FoundParts.{locals_found, until_found, run_found, runs_found, condition_found}
use Rattle.java_parser_grammar.proofs.LongerStatements.{unpack_stmts, stmts_fit}
use Rattle.java_parser_grammar.proofs.LooksLocal.{declared_looks, run_looks}
use Rattle.java_parser_grammar.proofs.StatementFronts.{starts, starts_declared, starts_statement}
use Rattle.java_parser_grammar.proofs.Annotations.{before_type_found}
use Rattle.java_parser_grammar.proofs.FoundClasses.{local_class_found, class_lead}
use Rattle.java_parser_grammar.proofs.Unlabelled.{expr_unlabelled, declared_unlabelled}

pub pack-unpack_stmts : (ss : Stmts) → pack_stmts (unpack_stmts ss) ≡ ss
unfolding unpack_stmts
pack-unpack_stmts no_stmt = refl
pack-unpack_stmts (stmt_then s ss) = rw (pack-unpack_stmts ss) refl

list_looks : (ms : List Modifier) (t : Ty) (vs : List Variable) (rest : List Spelled) → FormedVariableModifiers ms
    → FormedTy t → IsTrue (has_some vs)
    → looks_local (modifiers_onto ms (ty_onto t (commas_onto variable_onto vs rest))) ≡ true
list_looks ms t [] rest b f some = absurd cc
list_looks ms t (v ∷ vs) rest b f some =
    declared_looks ms t v.name (brackets_onto v.arrays (maybe_init_onto v.initialiser (behind_commas variable_onto vs
    rest))) b f

locals_look : (l : Locals) (rest : List Spelled) → FormedLocals l → looks_local (locals_onto l rest) ≡ true
locals_look l rest f = list_looks l.modifiers l.kind l.variables rest f.0 f.1 f.2

list_lead : (ms : List Modifier) (t : Ty) (vs : List Variable) (rest : List Spelled) → FormedVariableModifiers ms
    → FormedTy t → IsTrue (has_some vs)
    → statement_lead (modifiers_onto ms (ty_onto t (commas_onto variable_onto vs rest))) ≡ Other
list_lead ms t [] rest b f some = absurd cc
list_lead ms t (v ∷ vs) rest b f some =
    let behind = brackets_onto v.arrays (maybe_init_onto v.initialiser (behind_commas variable_onto vs rest)) in
    (starts_declared ms t (identifier v.name ∷ behind) b f).other (declared_unlabelled ms t v.name behind f)

-- a declaration begins with no keyword of a form, and is not labelled
pub locals_lead : (l : Locals) (rest : List Spelled) → FormedLocals l → statement_lead (locals_onto l rest) ≡ Other
locals_lead l rest f = list_lead l.modifiers l.kind l.variables rest f.0 f.1 f.2

-- nor does an expression and its `;`
pub run_lead : (e : Expr) (rest : List Spelled) → FormedExpr e → statement_lead (expr_onto e (sign (codes ";") ∷ rest))
    ≡ Other
run_lead e rest f =
    (starts e (sign (codes ";") ∷ rest) f).other (expr_unlabelled e (sign (codes ";") ∷ rest) f refl)

module _ (readers : Readers) (EndsTy EndsExpr : List Spelled → Type 0) (finds : Finds readers EndsTy EndsExpr) where
  -- ---- `if`

  pub if_found : (read : Reading Stmt) (n : ℕ) (e : Expr) (s : Stmt) (rest : List Spelled) → FormedExpr e → expr_nesting
      e ≤ n → IsTrue (is_body s) → after_keyword (codes "else") rest ≡ None → read (stmt_onto s rest) ≡ Some (s, rest)
      → if_at readers read n (sign (codes "(") ∷ expr_onto e (sign (codes ")") ∷ stmt_onto s rest)) ≡ Some (
        If e s,
        rest,
      )
  unfolding if_at
  if_found read n e s rest f fits b q h =
      rw (condition_found readers EndsTy EndsExpr finds e n (stmt_onto s rest) f fits, h, b, q) refl

  pub if_else_found : (read : Reading Stmt) (n : ℕ) (e : Expr) (s t : Stmt) (rest : List Spelled) → FormedExpr e
      → expr_nesting e ≤ n → IsTrue (is_body s) → IsTrue (is_body t)
      → read (stmt_onto s (keyword (codes "else") ∷ stmt_onto t rest)) ≡ Some (
        s,
        keyword (codes "else")
            ∷ stmt_onto t rest,
      ) → read (stmt_onto t rest) ≡ Some (t, rest)
      → if_at readers read n (sign (codes "(") ∷ expr_onto e (sign (codes ")") ∷ stmt_onto s (keyword (codes "else")
      ∷ stmt_onto t rest))) ≡ Some (IfElse e s t, rest)
  unfolding if_at
  if_else_found read n e s t rest f fits b c h k =
      let r = stmt_onto s (keyword (codes "else") ∷ stmt_onto t rest) in
      rw (condition_found readers EndsTy EndsExpr finds e n r f fits, h, b, k, c) refl

  -- ---- `for`

  abbrev pub for_onto : Option Expr → Exprs → Stmt → List Spelled → List Spelled
  for_onto condition updates s rest =
      maybe_expr_onto condition (sign (codes ";") ∷ exprs_onto updates (sign (codes ")") ∷ stmt_onto s rest))

  pub from_found : (read : Reading Stmt) (n : ℕ) (start : Start) (condition : Option Expr) (updates : Exprs) (s : Stmt)
      (rest : List Spelled) → FormedMaybeExpr condition → FormedRuns updates → maybe_expr_nesting condition ≤ n
      → exprs_nesting updates ≤ n → IsTrue (is_body s) → read (stmt_onto s rest) ≡ Some (s, rest)
      → for_from readers read n start (sign (codes ";") ∷ for_onto condition updates s rest) ≡ Some
      (For start condition updates s, rest)
  unfolding for_from
  from_found read n start condition updates s rest f g fits small b h =
      rw (
        until_found readers EndsTy EndsExpr finds (codes ";") (semicolon_end readers EndsTy EndsExpr finds) condition
            n (exprs_onto updates (sign (codes ")") ∷ stmt_onto s rest)) f fits,
        runs_found readers EndsTy EndsExpr finds (codes ")") (close_end readers EndsTy EndsExpr finds) updates n
            (stmt_onto s rest) g small,
        h,
        b,
        pack-unpack_exprs updates,
      ) refl

  pub each_found : (read : Reading Stmt) (n : ℕ) (ms : List Modifier) (t : Ty) (x : List ℕ) (e : Expr) (s : Stmt)
      (rest : List Spelled) → FormedVariableModifiers ms → FormedTy t → FormedExpr e → ty_nesting t ≤ n
      → expr_nesting e ≤ n → IsTrue (is_body s) → read (stmt_onto s rest) ≡ Some (s, rest)
      → for_at readers read n (sign (codes "(") ∷ modifiers_onto ms (ty_onto t (identifier x ∷ sign (codes ":")
      ∷ expr_onto e (sign (codes ")") ∷ stmt_onto s rest)))) ≡ Some (ForEach ms t x e s, rest)
  unfolding for_at for_typed each_from
  each_found read n ms t x e s rest m f g fits small b h =
      let c = sign (codes ")") ∷ stmt_onto s rest in
      let a = sign (codes ":") ∷ expr_onto e c in
      rw (
        declared_looks ms t x a m f,
        before_type_found ms t (identifier x ∷ a) m f,
        finds.ty t f n (identifier x ∷ a) fits (finds.name_ends_ty x a),
        finds.expr e g n c small (finds.close_ends (stmt_onto s rest)),
        h,
        b,
      ) refl

  -- the head of a `for` that declares variables
  typed_found : (read : Reading Stmt) (n : ℕ) (ms : List Modifier) (t : Ty) (vs : List Variable) (tail : List Spelled)
      → FormedVariableModifiers ms → FormedTy t → IsTrue (has_some vs) → Each FormedVariable vs → ty_nesting t ≤ n
      → most_over variable_nesting vs ≤ n
      → for_at readers read n (sign (codes "(") ∷ locals_onto (record {
        modifiers = ms;
        kind = t;
        variables = vs;
      }) (sign (codes ";") ∷ tail)) ≡ for_from readers read n (Declares (record {
        modifiers = ms;
        kind = t;
        variables = vs;
      })) (sign (codes ";") ∷ tail)
  unfolding for_at for_typed
  typed_found read n ms t [] tail m f some g fits small = absurd cc
  typed_found read n ms t (v ∷ vs) tail m f some g fits small =
      let r = commas_onto variable_onto (v ∷ vs) (sign (codes ";") ∷ tail) in
      rw (
        declared_looks ms t v.name _ m f,
        before_type_found ms t r m f,
        finds.ty t f n r fits (finds.name_ends_ty v.name _),
        no_colon v vs tail,
        variables_found readers EndsTy EndsExpr finds ms t (v ∷ vs) n tail some g small,
      ) refl

  runs_look : (es : Exprs) (tail : List Spelled) → FormedRuns es → looks_local (exprs_onto es (sign (codes ";")
      ∷ tail)) ≡ false
  runs_look no_expr tail f = refl
  runs_look (expr_then e es) tail f = run_looks e (more_exprs_onto es (sign (codes ";") ∷ tail)) f.0.0 f.0.1

  pub head_found : (read : Reading Stmt) (n : ℕ) (start : Start) (tail : List Spelled) → FormedStart start
      → start_nesting start ≤ n
      → for_at readers read n (sign (codes "(") ∷ start_onto start (sign (codes ";") ∷ tail)) ≡ for_from readers read
      n start (sign (codes ";") ∷ tail)
  unfolding for_at for_run
  head_found read n (Declares l) tail f fits = typed_found read n l.modifiers l.kind l.variables tail f.0 f.1 f.2 f.3
      (omega arith) (omega arith)
  head_found read n (Runs es) tail f fits =
      rw (
        runs_look es tail f,
        runs_found readers EndsTy EndsExpr finds (codes ";") (semicolon_end readers EndsTy
            EndsExpr finds) es n tail f fits,
        pack-unpack_exprs es,
      ) refl

  -- ---- declarations and expressions as statements

  pub local_found : (n : ℕ) (l : Locals) (rest : List Spelled) → FormedLocals l → locals_nesting l ≤ n
      → simple_at readers n (locals_onto l (sign (codes ";") ∷ rest)) ≡ Some (Local l, rest)
  unfolding local_at
  local_found n l rest f fits = rw (
    locals_look l (sign (codes ";") ∷ rest) f,
    locals_found readers EndsTy EndsExpr
        finds l n rest f fits,
  ) refl

  pub run_line_found : (n : ℕ) (e : Expr) (rest : List Spelled) → FormedRun e → expr_nesting e ≤ n → simple_at readers n
      (expr_onto e (sign (codes ";") ∷ rest)) ≡ Some (Run e, rest)
  unfolding run_line_at
  run_line_found n e rest f fits =
      rw (
        run_looks e (sign (codes ";") ∷ rest) f.0 f.1,
        run_found readers EndsTy EndsExpr finds e n (sign (codes ";")
            ∷ rest) f fits (finds.semicolon_ends rest),
      ) refl

  -- ---- labels

  pub labelled_found : (read : Reading Stmt) (block : Reading Stmts) (n : ℕ) (x : List ℕ) (s : Stmt)
      (ts rest : List Spelled) → IsTrue (is_body s) → read (stmt_onto s rest) ≡ Some (s, rest)
      → by_lead readers read block n (LabelWord x (stmt_onto s rest)) ts ≡ Some (Labelled x s, rest)
  labelled_found read block n x s ts rest b h = rw (h, b) refl

  -- ---- local classes

  pub class_found : (read : Reading Stmt) (block : Reading Stmts) (n : ℕ) (x : List ℕ) (ts rest : List Spelled)
      → IsTrue (are_class x ts) → by_lead readers read block n (statement_lead (ts ++ rest)) (ts ++ rest) ≡ Some
      (LocalClass x ts, rest)
  class_found read block n x ts rest f = rw (class_lead x ts f rest, local_class_found x ts f rest) refl

  -- ---- statements in braces

  -- each statement is read, before those that follow
  abbrev pub EachRead : Reading Stmt → Stmts → List Spelled → Type 0
  EachRead read no_stmt rest = Unit {0}
  EachRead read (stmt_then s ss) rest =
      (read (stmt_onto s (stmts_onto ss rest)) ≡ Some (s, stmts_onto ss rest)) × EachRead read ss rest

  stmts_read : (read : Reading Stmt) (ss : Stmts) (m : ℕ) (rest : List Spelled) → FormedStmts ss
      → EachRead read ss (sign (codes "}") ∷ rest) → length (unpack_stmts ss) < m
      → stmts_at readers read m (stmts_onto ss (sign (codes "}") ∷ rest)) ≡ Some (unpack_stmts ss, rest)
  unfolding stmts_at unpack_stmts
  stmts_read read ss zero rest f each room = absurd (omega arith)
  stmts_read read no_stmt (suc m) rest f each room = refl
  stmts_read read (stmt_then s ss) (suc m) rest f each room =
      let behind = stmts_onto ss (sign (codes "}") ∷ rest) in
      rw (
        (starts_statement s behind f.0).no_brace,
        each.0,
        stmts_read read ss m rest f.1 each.1 (omega arith),
      ) refl

  pub braces_found : (read : Reading Stmt) (ss : Stmts) (rest : List Spelled) → FormedStmts ss
      → EachRead read ss (sign (codes "}") ∷ rest)
      → braces_at readers read (stmts_onto ss (sign (codes "}") ∷ rest)) ≡ Some (ss, rest)
  braces_found read ss rest f each =
      let ts = stmts_onto ss (sign (codes "}") ∷ rest) in
      let room : length (unpack_stmts ss) < length ts = omega (arith, stmts_fit ss f (sign (codes "}") ∷ rest)) in
      rw (stmts_read read ss (length ts) rest f each room, pack-unpack_stmts ss) refl
