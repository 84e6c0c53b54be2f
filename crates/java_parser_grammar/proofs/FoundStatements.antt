-- Each formed statement is read; a keyword that goes on with a statement goes to the nearest one.
use Rattle.std.proofs.Common.{◌≡◌, ℕ, zero, suc, ◌≤◌, ◌<◌, max, Bool, true, false, not, List, [], ◌∷◌, length, Some}
use Rattle.std.proofs.Common.{None, IsTrue, codes, refl, sym, ap, ◌∙◌, arith}
use Rattle.std.specs.Prelude.{bytes_eq}
use Rattle.std.specs.Cmp.Lexicographic.{bytes_decides}
use Rattle.std.proofs.lemmas.Bool.{and_parts, or_right}
use Rattle.java_tree.specs.declared.words.Spelled.{Spelled}
use Rattle.java_tree.specs.Words.{keyword, sign}
use Rattle.java_tree.specs.Trees.{Stmt, Block, Local, Run, If, IfElse, For, ForEach, Labelled, LocalClass, Empty}
use Rattle.java_tree.specs.Trees.{Row, Stmts}
use Rattle.java_tree.specs.Trees.{no_stmt, stmt_then, Pieces, no_piece, a_token, an_expr, maybe_an_expr}
use Rattle.java_tree.specs.Trees.{maybe_a_name, maybe_behind, a_condition, a_body, a_block, maybe_resources}
use Rattle.java_tree.specs.Trees.{a_catch_parameter, a_list, present, absent, some_part, a_switch, Several, no_row}
use Rattle.java_tree.specs.Trees.{row_then, Groups, no_group, group_then}
use Rattle.java_tree.specs.Spelling.{stmt_onto, stmts_onto, block_onto, pieces_onto, several_onto}
use Rattle.java_tree.specs.Formed.{FormedStmt, FormedStmts, Fits, EachFits, FormedGroups, ends_in_if, goes_on}
use Rattle.java_tree.specs.Nesting.{stmt_nesting, stmts_nesting, pieces_nesting, several_nesting, groups_nesting}
use Rattle.java_tree.specs.Nesting.{block_nesting}
use Rattle.java_tree.specs.Rows.{AKeyword, ASign, AnExpr, Until, MaybeName, MaybeBehind, ACondition, ABody, ABlock}
use Rattle.java_tree.specs.Rows.{ASwitch, MaybeResources, ACatchParameter, Again, Perhaps, SomePart, Slots, no_slot}
use Rattle.java_tree.specs.Rows.{◌▹◌, row_of}
use Rattle.java_parser_grammar.specs.Taking.{after_keyword}
use Rattle.java_parser_grammar.specs.Readers.{Readers}
use Rattle.java_parser_grammar.specs.StatementReading.{again_at, pieces_at, stmt_at, block_at}
use Rattle.java_parser_grammar.proofs.FindingReaders.{Finds}
use Rattle.java_parser_grammar.proofs.FoundForms.{for_onto, if_found, if_else_found, from_found, each_found}
use Rattle.java_parser_grammar.proofs.FoundForms.{head_found, labelled_found, class_found, locals_lead, run_lead}
use Rattle.java_parser_grammar.proofs.FoundForms.{local_found}
use Rattle.java_parser_grammar.proofs.FoundForms.{run_line_found, EachRead, braces_found}
use Rattle.java_parser_grammar.proofs.FoundRows.{RowRead, nothing_read, keyword_read, sign_read, expr_read}
use Rattle.java_parser_grammar.proofs.FoundRows.{until_read, until_row, condition_read, body_read, block_read}
use Rattle.java_parser_grammar.proofs.FoundRows.{block_fits, name_read, behind_read, resources_read, parameter_read}
use Rattle.java_parser_grammar.proofs.FoundRows.{some_read, present_read, absent_read, again_read, no_more_rows}
use Rattle.java_parser_grammar.proofs.FoundRows.{one_more_row, one_less, row_found}
use Rattle.java_parser_grammar.proofs.FoundGroups.{GroupsRead, groups_tail, groups_quiet, no_more_groups}
use Rattle.java_parser_grammar.proofs.FoundGroups.{one_more_group, switch_read, group_less}
use Rattle.java_parser_grammar.proofs.LongerStatements.{rows_fit, groups_fit}
use Rattle.java_parser_grammar.proofs.ReadableRows.{Bears, RowEnd, is_readable, rows_readable, is_closed, closed_row}
use Rattle.java_parser_grammar.proofs.ReadableRows.{row_end, name_lacks, sign_lacks}
use Rattle.java_parser_grammar.proofs.ReadableRows.{body_end, last_end, list_end, list_last, absent_end, absent_last}
use Rattle.java_parser_grammar.proofs.ReadableRows.{keyed, rows_of, groups_of}
use Rattle.java_parser_grammar.proofs.StatementFronts.{NoJoin, joining_cases, starts_statement}

-- before an `else`, what does not end in an `if`
before_else : (s : Stmt) (r : List Spelled) → IsTrue (not (ends_in_if s)) → Bears s (keyword (codes "else") ∷ r)
before_else s r n word j h = by_test (bytes_eq (codes "else") word) refl where
  by_test : (b : Bool) → bytes_eq (codes "else") word ≡ b → after_keyword word (keyword (codes "else") ∷ r) ≡ None
  by_test true e =
      let same : ends_in_if s ≡ true = ap (λ w. goes_on w s) ((bytes_decides (codes "else") word).0 e) ∙ h in absurd cc
  by_test false e = rw e refl

-- what follows a statement among others does not go on with it
quiet : (ss : Stmts) (rest : List Spelled) → FormedStmts ss → NoJoin rest → NoJoin (stmts_onto ss rest)
quiet no_stmt rest f none = none
quiet (stmt_then s ss) rest f none = (starts_statement s (stmts_onto ss rest) f.0).no_join

brace_quiet : (rest : List Spelled) → NoJoin (sign (codes "}") ∷ rest)
brace_quiet rest = joining_cases (λ w. after_keyword w (sign (codes "}") ∷ rest) ≡ None) refl refl refl

module _ (readers : Readers) (EndsTy EndsExpr : List Spelled → Type 0) (finds : Finds readers EndsTy EndsExpr) where
  -- a statement has a nesting at least
  stmt_nested : (s : Stmt) → 1 ≤ stmt_nesting s
  stmt_nested (Block ss) = omega arith
  stmt_nested (Local l) = omega arith
  stmt_nested (Run e) = omega arith
  stmt_nested (If e s) = omega arith
  stmt_nested (IfElse e s t) = omega arith
  stmt_nested (For start condition updates s) = omega arith
  stmt_nested (ForEach ms t x e s) = omega arith
  stmt_nested (Labelled x s) = omega arith
  stmt_nested (LocalClass x ts) = omega arith
  stmt_nested Empty = omega arith
  stmt_nested (Row word ps) = omega arith

  mutual
    unfolding stmt_at

    pub stmt_found : (s : Stmt) (n : ℕ) (rest : List Spelled) → FormedStmt s → stmt_nesting s ≤ n → Bears s rest
        → stmt_at readers n (stmt_onto s rest) ≡ Some (s, rest)
    stmt_found s zero rest f fits b = let k = stmt_nested s in absurd (omega arith)
    stmt_found (Block ss) (suc n) rest f fits b =
        rw (braces_found readers EndsTy EndsExpr finds (stmt_at readers n) ss rest f
        (stmts_found ss n (sign (codes "}") ∷ rest) f (omega arith) (brace_quiet rest))) refl
    stmt_found (Local l) (suc n) rest f fits b =
        rw (locals_lead l (sign (codes ";") ∷ rest) f)
        (local_found readers EndsTy EndsExpr finds n l rest f (omega arith))
    stmt_found (Run e) (suc n) rest f fits b =
        rw (run_lead e rest f.0) (run_line_found readers EndsTy EndsExpr finds n e rest f (omega arith))
    stmt_found (If e s) (suc n) rest f fits b =
        if_found readers EndsTy EndsExpr finds (stmt_at readers n) n e s rest f.0 (omega arith) f.2
        (b (codes "else") refl refl)
        (stmt_found s n rest f.1 (omega arith) (λ word j h. b word j (or_right (bytes_eq word (codes "else")) _ h)))
    stmt_found (IfElse e s t) (suc n) rest f fits b =
        if_else_found readers EndsTy EndsExpr finds (stmt_at readers n) n e s t rest f.0 (omega arith) f.3 f.4
        (stmt_found s n (keyword (codes "else") ∷ stmt_onto t rest) f.1 (omega arith)
        (before_else s (stmt_onto t rest) f.5))
        (stmt_found t n rest f.2 (omega arith) b)
    stmt_found (For start condition updates s) (suc n) rest f fits b =
        head_found readers EndsTy EndsExpr finds (stmt_at readers n) n start
        (for_onto readers EndsTy EndsExpr finds condition updates s rest) f.0 (omega arith)
        ∙ from_found readers EndsTy EndsExpr finds (stmt_at readers n) n start condition updates s rest f.1 f.2
        (omega arith) (omega arith) f.4 (stmt_found s n rest f.3 (omega arith) b)
    stmt_found (ForEach ms t x e s) (suc n) rest f fits b =
        each_found readers EndsTy EndsExpr finds (stmt_at readers n) n ms t x e s rest f.0 f.1 f.2 (omega arith)
        (omega arith) f.4 (stmt_found s n rest f.3 (omega arith) b)
    stmt_found (Labelled x s) (suc n) rest f fits b =
        labelled_found readers EndsTy EndsExpr finds (stmt_at readers n) (block_at readers n) n x s
        (stmt_onto (Labelled x s) rest) rest f.1
        (stmt_found s n rest f.0 (omega arith) b)
    stmt_found (LocalClass x ts) (suc n) rest f fits b =
        class_found readers EndsTy EndsExpr finds (stmt_at readers n) (block_at readers n) n x ts rest f
    stmt_found Empty (suc n) rest f fits b = refl
    stmt_found (Row word ps) (suc n) rest f fits b =
        row_found readers EndsTy EndsExpr finds n word ps rest f.0
        (pieces_found ps (row_of word) n rest f.1 (rows_readable word) (omega arith) b)

    pieces_found : (ps : Pieces) (row : Slots) (n : ℕ) (rest : List Spelled) → Fits ps row → is_readable row ≡ true
        → pieces_nesting ps ≤ n → RowEnd ps rest → RowRead readers EndsTy EndsExpr finds n row ps rest
    pieces_found no_piece no_slot n rest f ok fits b = nothing_read readers EndsTy EndsExpr finds n rest
    pieces_found (a_token t ps) (AKeyword text ▹ row) n rest f ok fits b =
        keyword_read readers EndsTy EndsExpr finds n text row t ps rest f.0 (pieces_found ps row n rest f.1 ok fits b)
    pieces_found (a_token t ps) (ASign text ▹ row) n rest f ok fits b =
        sign_read readers EndsTy EndsExpr finds n text row t ps rest f.0 (pieces_found ps row n rest f.1 ok fits b)
    pieces_found (an_expr e ps) (AnExpr ▹ row) n rest f ok fits b =
        expr_read readers EndsTy EndsExpr finds n row e ps rest f.0 (omega arith)
        (row_end EndsExpr finds.close_ends finds.semicolon_ends finds.colon_ends ps row rest f.1 (and_parts _ _ ok).0)
        (pieces_found ps row n rest f.1 (and_parts _ _ ok).1 (omega arith) b)
    pieces_found (maybe_an_expr e ps) (Until end ▹ row) n rest f ok fits b =
        until_read readers EndsTy EndsExpr finds n end row e ps rest
        (until_row readers EndsTy EndsExpr finds n end e ps row rest f.1 (and_parts _ _ ok).0 f.0 (omega arith))
        (pieces_found ps row n rest f.1 (and_parts _ _ ok).1 (omega arith) b)
    pieces_found (a_condition e ps) (ACondition ▹ row) n rest f ok fits b =
        condition_read readers EndsTy EndsExpr finds n row e ps rest f.0 (omega arith)
        (pieces_found ps row n rest f.1 ok (omega arith) b)
    pieces_found (maybe_a_name x ps) (MaybeName ▹ row) n rest f ok fits b =
        name_read readers EndsTy EndsExpr finds n row x ps rest (name_lacks ps row rest f (and_parts _ _ ok).0)
        (pieces_found ps row n rest f (and_parts _ _ ok).1 fits b)
    pieces_found (maybe_behind t e ps) (MaybeBehind text ▹ row) n rest f ok fits b =
        let here = (and_parts _ _ ok).0 in
        behind_read readers EndsTy EndsExpr finds n t text row e ps rest f.0.0 f.0.1 (omega arith)
        (row_end EndsExpr finds.close_ends finds.semicolon_ends finds.colon_ends ps row rest f.1 (and_parts _ _ here).0)
        (sign_lacks text ps row rest f.1 (and_parts _ _ here).1)
        (pieces_found ps row n rest f.1 (and_parts _ _ ok).1 (omega arith) b)
    pieces_found (a_body s ps) (ABody ▹ row) n rest f ok fits b =
        body_read readers EndsTy EndsExpr finds n row s ps rest f.0.1
        (stmt_found s n (pieces_onto ps rest) f.0.0 (omega arith) (body_end s ps row rest f.1 (and_parts _ _ ok).0 b))
        (pieces_found ps row n rest f.1 (and_parts _ _ ok).1 (omega arith) (last_end s ps rest b))
    pieces_found (a_block ss ps) (ABlock ▹ row) n rest f ok fits b =
        let behind = pieces_onto ps rest in
        block_read readers EndsTy EndsExpr finds n row ss ps rest
        (block_fits readers EndsTy EndsExpr finds n ss behind f.0 (omega arith)
        (λ m k. stmts_found ss m (sign (codes "}") ∷ behind) f.0 k (brace_quiet behind)))
        (pieces_found ps row n rest f.1 ok (omega arith) b)
    pieces_found (maybe_resources rs ps) (MaybeResources ▹ row) n rest f ok fits b =
        resources_read readers EndsTy EndsExpr finds n row rs ps rest f.0 (omega arith)
        (sign_lacks (codes "(") ps row rest f.1 (and_parts _ _ ok).0)
        (pieces_found ps row n rest f.1 (and_parts _ _ ok).1 (omega arith) b)
    pieces_found (a_catch_parameter c ps) (ACatchParameter ▹ row) n rest f ok fits b =
        parameter_read readers EndsTy EndsExpr finds n row c ps rest f.0 (omega arith)
        (pieces_found ps row n rest f.1 ok (omega arith) b)
    pieces_found (a_list w more ps) (Again word sub ▹ row) n rest f ok fits b =
        let k = keyed word sub row ok in
        let behind = pieces_onto ps rest in
        again_read readers EndsTy EndsExpr finds n w word sub row more ps rest f.0.0
        (several_found more sub word n (suc (length (several_onto word more behind))) behind f.0.1 k.own k.closed
        (omega arith) (list_end word w more ps row rest f.0.0 f.1 k.joins k.ends b)
        (omega (arith, rows_fit more sub f.0.1 word behind)))
        (pieces_found ps row n rest f.1 k.others (omega arith) (list_last w more ps rest b))
    pieces_found (present w one ps) (Perhaps word sub ▹ row) n rest f ok fits b =
        let k = keyed word sub row ok in
        let behind = pieces_onto ps rest in
        present_read readers EndsTy EndsExpr finds n w word sub row one ps rest f.0.0
        (pieces_found one sub n behind f.0.1 k.own (omega arith) (closed_row one sub behind f.0.1 k.closed))
        (pieces_found ps row n rest f.1 k.others (omega arith) b)
    pieces_found (absent w ps) (Perhaps word sub ▹ row) n rest f ok fits b =
        let k = keyed word sub row ok in
        absent_read readers EndsTy EndsExpr finds n w word sub row ps rest f.0
        (absent_end word w ps row rest f.0 f.1 k.joins k.ends b)
        (pieces_found ps row n rest f.1 k.others fits (absent_last w ps rest b))
    pieces_found (some_part ps) (SomePart ▹ row) n rest f ok fits b =
        some_read readers EndsTy EndsExpr finds n row ps rest f.0 (pieces_found ps row n rest f.1 ok fits b)
    pieces_found (a_switch gs ps) (ASwitch ▹ row) n rest f ok fits b =
        let behind = pieces_onto ps rest in
        switch_read readers EndsTy EndsExpr finds n row gs ps rest
        (groups_found gs n (length (groups_tail gs behind)) behind f.0 (omega arith)
        (omega (arith, groups_fit gs f.0 (sign (codes "}") ∷ behind))))
        (pieces_found ps row n rest f.1 ok (omega arith) b)
    pieces_found _ _ n rest f ok fits b = absurd f

    groups_found : (gs : Groups) (n m : ℕ) (rest : List Spelled) → FormedGroups gs → groups_nesting gs ≤ n
        → groups_of gs < m → GroupsRead readers EndsTy EndsExpr finds n m gs rest
    groups_found gs n zero rest f fits room = absurd (omega arith)
    groups_found no_group n (suc m) rest f fits room = no_more_groups readers EndsTy EndsExpr finds n m rest
    groups_found (group_then labels ss gs) n (suc m) rest f fits room =
        one_more_group readers EndsTy EndsExpr finds n m labels ss gs rest f.0.0 f.0.1 (omega arith) f.1 f.2 f.3
        (stmts_found ss n (groups_tail gs rest) f.1 (omega arith) (groups_quiet gs rest f.3))
        (groups_found gs n m rest f.3 (omega arith)
        (group_less readers EndsTy EndsExpr finds labels ss gs m room))

    several_found : (more : Several) (sub : Slots) (word : List ℕ) (n m : ℕ) (rest : List Spelled) → EachFits more sub
        → is_readable sub ≡ true → is_closed sub ≡ true → several_nesting more ≤ n → after_keyword word rest ≡ None
        → rows_of more < m
        → again_at readers (pieces_at readers (stmt_at readers n) (block_at readers n) n sub) word m
        (several_onto word more rest) ≡ Some (more, rest)
    several_found more sub word n zero rest f ok shut fits none room = absurd (omega arith)
    several_found no_row sub word n (suc m) rest f ok shut fits none room =
        no_more_rows readers EndsTy EndsExpr finds n sub word m rest none
    several_found (row_then ps more) sub word n (suc m) rest f ok shut fits none room =
        let behind = several_onto word more rest in
        one_more_row readers EndsTy EndsExpr finds n sub word m ps more rest
        (pieces_found ps sub n behind f.0 ok (omega arith) (closed_row ps sub behind f.0 shut))
        (several_found more sub word n m rest f.1 ok shut (omega arith) none
        (one_less readers EndsTy EndsExpr finds more ps m room))

    pub stmts_found : (ss : Stmts) (n : ℕ) (rest : List Spelled) → FormedStmts ss → stmts_nesting ss ≤ n
        → NoJoin rest → EachRead readers EndsTy EndsExpr finds (stmt_at readers n) ss rest
    stmts_found no_stmt n rest f fits none = tt
    stmts_found (stmt_then s ss) n rest f fits none = (
      stmt_found s n (stmts_onto ss rest) f.0 (omega arith) (λ word j h. quiet ss rest f.1 none word j),
      stmts_found ss n rest f.1 (omega arith) none,
    )

  pair_is : (p q : Stmt × List Spelled) → Some p ≡ Some q → p ≡ q
  pair_is p q e = cc

  -- two formed statements with one spelling are equal
  pub one_statement : (a b : Stmt) → FormedStmt a → FormedStmt b → stmt_onto a [] ≡ stmt_onto b [] → a ≡ b
  one_statement a b f g e =
      let n = max (stmt_nesting a) (stmt_nesting b) in
      ap (λ (p : Stmt × List Spelled). p.0)
      (pair_is (a, []) (b, []) (sym (stmt_found a n [] f (omega arith) (λ w j h. refl)) ∙ ap (stmt_at readers n) e
      ∙ stmt_found b n [] g (omega arith) (λ w j h. refl)))

  -- a block, as the body of a method has it
  pub body_block_found : (ss : Stmts) (n : ℕ) (rest : List Spelled) → FormedStmts ss → block_nesting ss ≤ n
      → block_at readers n (block_onto ss rest) ≡ Some (ss, rest)
  body_block_found ss n rest f fits =
      block_fits readers EndsTy EndsExpr finds n ss rest f fits
      (λ m k. stmts_found ss m (sign (codes "}") ∷ rest) f k (brace_quiet rest))
