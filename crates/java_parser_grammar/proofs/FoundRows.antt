-- The pieces of rows are read, each before what stands behind it.
use Rattle.std.proofs.Common.{◌≡◌, ℕ, zero, suc, ◌≤◌, ◌<◌, List, ◌∷◌, length, Option, Some, None, IsTrue, codes, refl}
use Rattle.std.proofs.Common.{true, sym, ap, ◌∙◌, subst, arith}
use Rattle.java_tree.specs.declared.words.Spelled.{Spelled}
use Rattle.java_tree.specs.Words.{keyword, sign}
use Rattle.java_tree.specs.Trees.{Expr, Resources, CatchParameter, Stmt, Stmts, Row, Pieces, no_piece, a_token}
use Rattle.java_tree.specs.Trees.{an_expr, maybe_an_expr, maybe_a_name, maybe_behind, a_condition, a_body, a_block}
use Rattle.java_tree.specs.Trees.{maybe_resources, a_catch_parameter, a_list, present, absent, some_part, Several}
use Rattle.java_tree.specs.Trees.{no_row, row_then}
use Rattle.java_tree.specs.Spelling.{maybe_expr_onto, stmt_onto, block_onto, pieces_onto, several_onto}
use Rattle.java_tree.specs.Formed.{FormedExpr, FormedMaybeExpr, FormedMaybeResources, FormedCatchParameter, is_body}
use Rattle.java_tree.specs.Formed.{some_stands, FormedStmts, Fits}
use Rattle.java_tree.specs.Nesting.{expr_nesting, maybe_expr_nesting, maybe_resources_nesting}
use Rattle.java_tree.specs.Nesting.{catch_parameter_nesting, stmts_nesting, block_nesting}
use Rattle.java_tree.specs.Rows.{AKeyword, ASign, AnExpr, Until, MaybeName, MaybeBehind, ACondition, ABody, ABlock}
use Rattle.java_tree.specs.Rows.{MaybeResources, ACatchParameter, Again, Perhaps, SomePart, Slots, no_slot, ◌▹◌}
use Rattle.java_tree.specs.Rows.{is_row, row_of}
use Rattle.java_parser_grammar.specs.BalancedReading.{Reading}
use Rattle.java_parser_grammar.specs.Taking.{after_sign, after_keyword, after_name}
use Rattle.java_parser_grammar.specs.Readers.{Readers}
use Rattle.java_parser_grammar.specs.StatementReading.{expr_until, again_at, pieces_at, stmt_at, block_at}
use Rattle.java_parser_grammar.proofs.FindingReaders.{Finds}
use Rattle.java_parser_grammar.proofs.FoundForms.{EachRead, braces_found}
use Rattle.java_parser_grammar.proofs.FoundParts.{IsEnd, semicolon_end, until_found, condition_found}
use Rattle.java_parser_grammar.proofs.FoundRowParts.{maybe_name_found, maybe_behind_found, maybe_resources_found}
use Rattle.java_parser_grammar.proofs.FoundRowParts.{catch_parameter_found}
use Rattle.java_parser_grammar.proofs.ReadableRows.{keyword_front, sign_front, ends_until, until_end, rows_of}

module _ (readers : Readers) (EndsTy EndsExpr : List Spelled → Type 0) (finds : Finds readers EndsTy EndsExpr) where
  -- ---- blocks

  block_found : (n : ℕ) (ss : Stmts) (rest : List Spelled) → FormedStmts ss
      → EachRead readers EndsTy EndsExpr finds (stmt_at readers n) ss (sign (codes "}") ∷ rest)
      → block_at readers (suc n) (block_onto ss rest) ≡ Some (ss, rest)
  unfolding stmt_at
  block_found n ss rest f h = braces_found readers EndsTy EndsExpr finds (stmt_at readers n) ss rest f h

  pub block_fits : (n : ℕ) (ss : Stmts) (rest : List Spelled) → FormedStmts ss → block_nesting ss ≤ n
      → ((m : ℕ) → stmts_nesting ss ≤ m → EachRead readers EndsTy EndsExpr finds (stmt_at readers m) ss (sign
      (codes "}") ∷ rest)) → block_at readers n (block_onto ss rest) ≡ Some (ss, rest)
  block_fits zero ss rest f fits h = absurd (omega arith)
  block_fits (suc m) ss rest f fits h = block_found m ss rest f (h m (omega arith))

  -- ---- rows

  -- behind one piece
  abbrev pub RowRead : ℕ → Slots → Pieces → List Spelled → Type 0
  RowRead n row ps rest =
      pieces_at readers (stmt_at readers n) (block_at readers n) n row (pieces_onto ps rest) ≡ Some (ps, rest)

  pub keyword_read : (n : ℕ) (text : List ℕ) (row : Slots) (t : Spelled) (ps : Pieces) (rest : List Spelled)
      → t ≡ keyword text → RowRead n row ps rest → RowRead n (AKeyword text ▹ row) (a_token t ps) rest
  unfolding pieces_at
  keyword_read n text row t ps rest e h =
      subst (λ u. RowRead n (AKeyword text ▹ row) (a_token u ps) rest) (sym e)
      (rw (keyword_front text (pieces_onto ps rest), h) refl)

  pub sign_read : (n : ℕ) (text : List ℕ) (row : Slots) (t : Spelled) (ps : Pieces) (rest : List Spelled)
      → t ≡ sign text → RowRead n row ps rest → RowRead n (ASign text ▹ row) (a_token t ps) rest
  unfolding pieces_at
  sign_read n text row t ps rest e h =
      subst (λ u. RowRead n (ASign text ▹ row) (a_token u ps) rest) (sym e)
      (rw (sign_front text (pieces_onto ps rest), h) refl)

  pub expr_read : (n : ℕ) (row : Slots) (e : Expr) (ps : Pieces) (rest : List Spelled) → FormedExpr e
      → expr_nesting e ≤ n → EndsExpr (pieces_onto ps rest) → RowRead n row ps rest
      → RowRead n (AnExpr ▹ row) (an_expr e ps) rest
  unfolding pieces_at
  expr_read n row e ps rest f fits ends h = rw (finds.expr e f n (pieces_onto ps rest) fits ends, h) refl

  pub until_read : (n : ℕ) (end : List ℕ) (row : Slots) (e : Option Expr) (ps : Pieces) (rest : List Spelled)
      → expr_until readers n end (maybe_expr_onto e (pieces_onto ps rest)) ≡ Some (e, pieces_onto ps rest)
      → RowRead n row ps rest → RowRead n (Until end ▹ row) (maybe_an_expr e ps) rest
  unfolding pieces_at
  until_read n end row e ps rest k h = rw (k, h) refl

  pub condition_read : (n : ℕ) (row : Slots) (e : Expr) (ps : Pieces) (rest : List Spelled) → FormedExpr e
      → expr_nesting e ≤ n → RowRead n row ps rest → RowRead n (ACondition ▹ row) (a_condition e ps) rest
  unfolding pieces_at
  condition_read n row e ps rest f fits h =
      rw (condition_found readers EndsTy EndsExpr finds e n (pieces_onto ps rest) f fits, h) refl

  pub body_read : (n : ℕ) (row : Slots) (s : Stmt) (ps : Pieces) (rest : List Spelled) → IsTrue (is_body s)
      → stmt_at readers n (stmt_onto s (pieces_onto ps rest)) ≡ Some (s, pieces_onto ps rest)
      → RowRead n row ps rest → RowRead n (ABody ▹ row) (a_body s ps) rest
  unfolding pieces_at
  body_read n row s ps rest b k h = rw (k, b, h) refl

  pub block_read : (n : ℕ) (row : Slots) (ss : Stmts) (ps : Pieces) (rest : List Spelled)
      → block_at readers n (block_onto ss (pieces_onto ps rest)) ≡ Some (ss, pieces_onto ps rest)
      → RowRead n row ps rest → RowRead n (ABlock ▹ row) (a_block ss ps) rest
  unfolding pieces_at
  block_read n row ss ps rest k h = rw (k, h) refl

  end_of : (end : List ℕ) → end ≡ codes ";" → IsEnd EndsExpr end
  end_of end e = subst (IsEnd EndsExpr) (sym e) (semicolon_end readers EndsTy EndsExpr finds)

  pub until_row : (n : ℕ) (end : List ℕ) (e : Option Expr) (ps : Pieces) (row : Slots) (rest : List Spelled)
      → Fits ps row → ends_until end row ≡ true → FormedMaybeExpr e → maybe_expr_nesting e ≤ n
      → expr_until readers n end (maybe_expr_onto e (pieces_onto ps rest)) ≡ Some (e, pieces_onto ps rest)
  until_row n end e (a_token t ps) (ASign text ▹ row) rest g ok f fits =
      subst (λ u. expr_until readers n end (maybe_expr_onto e (u ∷ pieces_onto ps rest)) ≡ Some (
        e,
        u ∷ pieces_onto ps rest,
      )) (ap sign (until_end end text ok).0 ∙ sym g.0)
      (until_found readers EndsTy EndsExpr finds end (end_of end (until_end end text ok).1) e n (pieces_onto ps rest) f
      fits)
  until_row n end e _ (ASign text ▹ row) rest g ok f fits = absurd g
  until_row n end e _ _ rest g ok f fits = absurd cc

  pub nothing_read : (n : ℕ) (rest : List Spelled) → RowRead n no_slot no_piece rest
  unfolding pieces_at
  nothing_read n rest = refl

  pub name_read : (n : ℕ) (row : Slots) (x : Option (List ℕ)) (ps : Pieces) (rest : List Spelled)
      → after_name (pieces_onto ps rest) ≡ None → RowRead n row ps rest
      → RowRead n (MaybeName ▹ row) (maybe_a_name x ps) rest
  unfolding pieces_at
  name_read n row x ps rest e h =
      rw (maybe_name_found readers EndsTy EndsExpr finds x (pieces_onto ps rest) e, h) refl

  pub behind_read : (n : ℕ) (t text : List ℕ) (row : Slots) (e : Option Expr) (ps : Pieces) (rest : List Spelled)
      → t ≡ text → FormedMaybeExpr e → maybe_expr_nesting e ≤ n → EndsExpr (pieces_onto ps rest)
      → after_sign text (pieces_onto ps rest) ≡ None → RowRead n row ps rest
      → RowRead n (MaybeBehind text ▹ row) (maybe_behind t e ps) rest
  unfolding pieces_at
  behind_read n t text row e ps rest same f fits ends none h =
      subst (λ u. RowRead n (MaybeBehind text ▹ row) (maybe_behind u e ps) rest) (sym same)
      (rw (maybe_behind_found readers EndsTy EndsExpr finds text e n (pieces_onto ps rest) f fits ends none, h) refl)

  pub resources_read : (n : ℕ) (row : Slots) (rs : Option Resources) (ps : Pieces) (rest : List Spelled)
      → FormedMaybeResources rs → maybe_resources_nesting rs ≤ n → after_sign (codes "(") (pieces_onto ps rest) ≡ None
      → RowRead n row ps rest → RowRead n (MaybeResources ▹ row) (maybe_resources rs ps) rest
  unfolding pieces_at
  resources_read n row rs ps rest f fits none h =
      rw (maybe_resources_found readers EndsTy EndsExpr finds rs n (pieces_onto ps rest) f fits none, h) refl

  pub parameter_read : (n : ℕ) (row : Slots) (c : CatchParameter) (ps : Pieces) (rest : List Spelled)
      → FormedCatchParameter c → catch_parameter_nesting c ≤ n → RowRead n row ps rest
      → RowRead n (ACatchParameter ▹ row) (a_catch_parameter c ps) rest
  unfolding pieces_at
  parameter_read n row c ps rest f fits h =
      rw (catch_parameter_found readers EndsTy EndsExpr finds c n (pieces_onto ps rest) f fits, h) refl

  pub some_read : (n : ℕ) (row : Slots) (ps : Pieces) (rest : List Spelled) → IsTrue (some_stands ps)
      → RowRead n row ps rest → RowRead n (SomePart ▹ row) (some_part ps) rest
  unfolding pieces_at
  some_read n row ps rest some h = rw (h, some) refl

  pub present_read : (n : ℕ) (w word : List ℕ) (sub row : Slots) (one ps : Pieces) (rest : List Spelled) → w ≡ word
      → RowRead n sub one (pieces_onto ps rest) → RowRead n row ps rest
      → RowRead n (Perhaps word sub ▹ row) (present w one ps) rest
  unfolding pieces_at
  present_read n w word sub row one ps rest e h k =
      subst (λ v. RowRead n (Perhaps word sub ▹ row) (present v one ps) rest) (sym e)
      (rw (keyword_front word (pieces_onto one (pieces_onto ps rest)), h, k) refl)

  pub absent_read : (n : ℕ) (w word : List ℕ) (sub row : Slots) (ps : Pieces) (rest : List Spelled) → w ≡ word
      → after_keyword word (pieces_onto ps rest) ≡ None → RowRead n row ps rest
      → RowRead n (Perhaps word sub ▹ row) (absent w ps) rest
  unfolding pieces_at
  absent_read n w word sub row ps rest e none h =
      subst (λ v. RowRead n (Perhaps word sub ▹ row) (absent v ps) rest) (sym e) (rw (none, h) refl)

  -- ---- rows behind one keyword

  pub one_less : (more : Several) (ps : Pieces) (m : ℕ) → rows_of (row_then ps more) < suc m → rows_of more < m
  unfolding rows_of
  one_less more ps m h = omega (arith, h)

  abbrev sub_at : ℕ → Slots → Reading Pieces
  sub_at n sub = pieces_at readers (stmt_at readers n) (block_at readers n) n sub

  pub no_more_rows : (n : ℕ) (sub : Slots) (word : List ℕ) (m : ℕ) (rest : List Spelled)
      → after_keyword word rest ≡ None
      → again_at readers (sub_at n sub) word (suc m) rest ≡ Some (no_row, rest)
  unfolding again_at
  no_more_rows n sub word m rest e = rw e refl

  pub one_more_row : (n : ℕ) (sub : Slots) (word : List ℕ) (m : ℕ) (ps : Pieces) (more : Several) (rest : List Spelled)
      → RowRead n sub ps (several_onto word more rest)
      → again_at readers (sub_at n sub) word m (several_onto word more rest) ≡ Some (more, rest)
      → again_at readers (sub_at n sub) word (suc m) (several_onto word (row_then ps more) rest)
      ≡ Some (row_then ps more, rest)
  unfolding again_at
  one_more_row n sub word m ps more rest h k =
      rw (keyword_front word (pieces_onto ps (several_onto word more rest)), h, k) refl

  pub again_read : (n : ℕ) (w word : List ℕ) (sub row : Slots) (more : Several) (ps : Pieces) (rest : List Spelled)
      → w ≡ word
      → again_at readers (sub_at n sub) word (suc (length (several_onto word more (pieces_onto ps rest))))
      (several_onto word more (pieces_onto ps rest)) ≡ Some (more, pieces_onto ps rest)
      → RowRead n row ps rest → RowRead n (Again word sub ▹ row) (a_list w more ps) rest
  unfolding pieces_at
  again_read n w word sub row more ps rest e h k =
      subst (λ v. RowRead n (Again word sub ▹ row) (a_list v more ps) rest) (sym e) (rw (h, k) refl)

  pub row_found : (n : ℕ) (word : List ℕ) (ps : Pieces) (rest : List Spelled) → IsTrue (is_row word)
      → RowRead n (row_of word) ps rest
      → stmt_at readers (suc n) (stmt_onto (Row word ps) rest) ≡ Some (Row word ps, rest)
  unfolding stmt_at
  row_found n word ps rest is h = rw (is, h) refl
