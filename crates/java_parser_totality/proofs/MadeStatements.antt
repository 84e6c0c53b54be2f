-- A statement of the code is made of the tokens of a formed statement.
use Rattle.std.proofs.Common.{◌≡◌, ℕ, true, false, List, [], ◌∷◌, Some, None, map, length}
use Rattle.std.proofs.Common.{refl, sym, ap, ◌∙◌, arith, codes, ◌&&◌}
use Rattle.std.proofs.lemmas.Bool.{and_parts}
use Rattle.java_lexer.specs.declared.token.TokenKind.TheVariants as kind
use Rattle.java_tree.specs.declared.words.Spelled.{Spelled}
use Rattle.java_tree.specs.declared.statements.Statement.{Statement}
use Rattle.java_tree.specs.declared.statements.GroupTree.{GroupTree}
use Rattle.java_tree.specs.KeptPlaces.{AreAt, is_kept, each_puts, stmt_places, group_places}
use Rattle.java_tree.specs.Trees.{Modifier, Stmt, Block, Local, Run, If, IfElse, For, ForEach, Labelled, LocalClass}
use Rattle.java_tree.specs.Trees.{Empty, Stmts, no_stmt}
use Rattle.java_tree.specs.Trees.{stmt_then, pack_stmts, Row, Pieces, no_piece, a_token, an_expr, maybe_an_expr}
use Rattle.java_tree.specs.Trees.{maybe_a_name, maybe_behind, a_condition, a_body, a_block, maybe_resources}
use Rattle.java_tree.specs.Trees.{a_catch_parameter, a_list, present, absent, some_part, a_switch, Several, no_row}
use Rattle.java_tree.specs.Trees.{row_then, Groups, no_group, group_then, Label}
use Rattle.java_tree.specs.Words.{keyword}
use Rattle.java_tree.specs.Spelling.{stmt_onto, stmts_onto, pieces_onto, several_onto, groups_onto, maybe_behind_onto}
use Rattle.java_tree.specs.Formed.{FormedStmt, FormedStmts, FormedGroups, Fits, EachFits}
use Rattle.java_tree.specs.Rows.{AKeyword, ASign, AnExpr, Until, MaybeName, MaybeBehind, ACondition, ABody, ABlock}
use Rattle.java_tree.specs.Rows.{ASwitch, MaybeResources, ACatchParameter, Again, Perhaps, SomePart, Slots, no_slot}
use Rattle.java_tree.specs.Rows.{◌▹◌, row_of}
use Rattle.java_tree.specs.View.{ty_of, name_of, expr_of, stmt_of, group_of, pack_groups, Group}
use Rattle.java_parser_totality.proofs.Parts.{Makes, maker, nothing, nothing-made, and, as-made}
use Rattle.java_parser_totality.proofs.MadeMarks.{by2, Marked-Part, a_sign, a_keyword, a_name, a_type, modifiers_part}
use Rattle.java_parser_totality.proofs.MadeMarks.{modifiers-made}
use Rattle.java_parser_totality.proofs.MadeClasses.{class_part, class-made}
use Rattle.java_parser_totality.proofs.MadeRows.{Values, seen, kept_of, count_of, all_seen, all_count, builds}
use Rattle.java_parser_totality.proofs.MadeRows.{are_unkept, unkept, row-unkept}
use Rattle.java_parser_totality.proofs.MadeStatementParts.{an_expr_of, a_locals}
use Rattle.java_parser_totality.proofs.MadeStatementParts.{maybe_expr_part, maybe-expr-made, some_runs, start_part}
use Rattle.java_parser_totality.proofs.MadeStatementParts.{start-made}
use Rattle.java_parser_totality.proofs.MadeRowParts.{word_part, word-made, maybe_name_part, maybe-name-made}
use Rattle.java_parser_totality.proofs.MadeRowParts.{behind_part, behind-made, maybe_resources_part}
use Rattle.java_parser_totality.proofs.MadeRowParts.{maybe-resources-made, parameter_part, parameter-made, labels_part}
use Rattle.java_parser_totality.proofs.MadeRowParts.{labels-made, a_label}
use Rattle.java_parser_totality.proofs.StatementForms as form
use Rattle.java_parser_totality.proofs.StatementForms.{block-at, block-is, empty-at, empty-is, for-at, for-is}
use Rattle.java_parser_totality.proofs.StatementForms.{for_each-at, for_each-is, if_else-at, if_else-is, local-at}
use Rattle.java_parser_totality.proofs.StatementForms.{local-is, one_if-at, one_if-is, run-at, run-is, labelled-at}
use Rattle.java_parser_totality.proofs.StatementForms.{labelled-is, local_class-at, local_class-is, group-at, group-is}
use Rattle.racer_base.proofs.Lists.{same_3, same_4}

-- ---- statements

abbrev pub stmt_part : Stmt → Marked-Part
stmt_part s =
    record { X = Statement; ok = λ x. stmt_of x ≡ s; put = stmt_places; size = λ _. 1; onto = stmt_onto s }

abbrev pub stmts_part : Stmts → Marked-Part
stmts_part ss =
    record {
      X = List Statement;
      ok = λ xs. pack_stmts (map stmt_of xs) ≡ ss;
      put = λ xs. each_puts (map stmt_places xs);
      size = λ xs. length xs;
      onto = stmts_onto ss;
    }

-- what stands behind the keyword of a row
abbrev pieces_part : Slots → Pieces → Marked-Part
pieces_part row ps =
    record {
      X = Values row;
      ok = λ x. seen row x ≡ ps;
      put = kept_of row;
      size = count_of row;
      onto = pieces_onto ps;
    }

-- rows behind one keyword
abbrev several_part : (word : List ℕ) → Slots → Several → Marked-Part
several_part word sub more =
    record {
      X = List (Values sub);
      ok = λ xs. all_seen (seen sub) xs ≡ more;
      put = λ xs. each_puts (map (kept_of sub) xs);
      size = all_count (count_of sub);
      onto = several_onto word more;
    }

abbrev groups_part : Groups → Marked-Part
groups_part gs =
    record {
      X = List GroupTree;
      ok = λ xs. pack_groups (map group_of xs) ≡ gs;
      put = λ xs. each_puts (map group_places xs);
      size = λ xs. length xs;
      onto = groups_onto gs;
    }

mutual
  pub stmt-made : (s : Stmt) → FormedStmt s → Makes AreAt (stmt_part s)
  stmt-made (Block ss) f =
      as-made AreAt (and AreAt (a_sign (codes "{")) (and AreAt (maker AreAt (stmts_part ss) (stmts-made ss f)) (a_sign
      (codes "}"))))
      (stmt_part (Block ss)) (λ x. form.a_block x.1.0) (record {
        ok = λ x few h. block-is x.1.0 (omega (arith, few)) ∙ ap Block h.1.0;
        put = λ x few ps. block-at x.1.0 (omega (arith, few)) ps;
        size = λ x. omega arith;
        onto = λ rest. refl;
      })
  stmt-made (Local l) f =
      as-made AreAt (and AreAt (a_locals l f) (a_sign (codes ";")))
      (stmt_part (Local l)) (λ x. form.a_local x.0) (record {
        ok = λ x few h. local-is x.0 ∙ ap Local h.0;
        put = λ x few ps. local-at x.0 ps;
        size = λ x. omega arith;
        onto = λ rest. refl;
      })
  stmt-made (Run e) f =
      as-made AreAt (and AreAt (an_expr_of e f.0) (a_sign (codes ";")))
      (stmt_part (Run e)) (λ x. form.a_run x.0) (record {
        ok = λ x few h. run-is x.0 ∙ ap Run h.0;
        put = λ x few ps. run-at x.0 ps;
        size = λ x. omega arith;
        onto = λ rest. refl;
      })
  stmt-made (If e s) f =
      as-made AreAt (and AreAt (a_keyword (codes "if") refl) (and AreAt (a_sign (codes "(")) (and AreAt
      (an_expr_of e f.0)
      (and AreAt (a_sign (codes ")")) (maker AreAt (stmt_part s) (stmt-made s f.1))))))
      (stmt_part (If e s)) (λ x. form.a_one_if x.1.1.0 x.1.1.1.1) (record {
        ok = λ x few h. one_if-is x.1.1.0 x.1.1.1.1 ∙ by2 If h.1.1.0 h.1.1.1.1;
        put = λ x few ps. one_if-at x.1.1.0 x.1.1.1.1 ps;
        size = λ x. omega arith;
        onto = λ rest. refl;
      })
  stmt-made (IfElse e s t) f =
      as-made AreAt (and AreAt (a_keyword (codes "if") refl) (and AreAt (a_sign (codes "(")) (and AreAt
      (an_expr_of e f.0)
      (and AreAt (a_sign (codes ")")) (and AreAt (maker AreAt (stmt_part s) (stmt-made s f.1)) (and AreAt (a_keyword
      (codes "else") refl) (maker AreAt (stmt_part t) (stmt-made t f.2))))))))
      (stmt_part (IfElse e s t)) (λ x. form.a_if_else x.1.1.0 x.1.1.1.1.0 x.1.1.1.1.1.1) (record {
        ok = λ x few h. if_else-is x.1.1.0 x.1.1.1.1.0 x.1.1.1.1.1.1 ∙ same_3 IfElse h.1.1.0 h.1.1.1.1.0 h.1.1.1.1.1.1;
        put = λ x few ps. if_else-at x.1.1.0 x.1.1.1.1.0 x.1.1.1.1.1.1 ps;
        size = λ x. omega arith;
        onto = λ rest. refl;
      })
  stmt-made (For i c updates s) f =
      as-made AreAt (and AreAt (a_keyword (codes "for") refl) (and AreAt (a_sign (codes "(")) (and AreAt (maker AreAt
      (start_part i) (start-made i f.0)) (and AreAt (a_sign (codes ";")) (and AreAt (maker AreAt (maybe_expr_part c)
      (maybe-expr-made c f.1)) (and AreAt (a_sign (codes ";")) (and AreAt (some_runs updates f.2) (and AreAt (a_sign
      (codes ")")) (maker AreAt (stmt_part s) (stmt-made s f.3))))))))))
      (stmt_part (For i c updates s)) (λ x. form.a_for x.1.1.0 x.1.1.1.1.0 x.1.1.1.1.1.1.0 x.1.1.1.1.1.1.1.1) (record {
        ok = λ x few h. for-is x.1.1.0 x.1.1.1.1.0 x.1.1.1.1.1.1.0 x.1.1.1.1.1.1.1.1 (omega (arith, few))
            ∙ same_4 For h.1.1.0 h.1.1.1.1.0 h.1.1.1.1.1.1.0 h.1.1.1.1.1.1.1.1;
        put = λ x few ps. for-at x.1.1.0 x.1.1.1.1.0 x.1.1.1.1.1.1.0 x.1.1.1.1.1.1.1.1 (omega (arith, few)) ps;
        size = λ x. omega arith;
        onto = λ rest. refl;
      })
  stmt-made (ForEach ms t x e s) f =
      as-made AreAt (and AreAt (a_keyword (codes "for") refl) (and AreAt (a_sign (codes "(")) (and AreAt (maker AreAt
      (modifiers_part ms) (modifiers-made ms)) (and AreAt (a_type t f.1) (and AreAt (a_name x) (and AreAt (a_sign
      (codes ":")) (and AreAt (an_expr_of e f.2) (and AreAt (a_sign (codes ")")) (maker AreAt (stmt_part s)
      (stmt-made s f.3))))))))))
      (stmt_part (ForEach ms t x e s))
      (λ x. form.a_for_each x.1.1.0 x.1.1.1.0 x.1.1.1.1.0 x.1.1.1.1.1.1.0 x.1.1.1.1.1.1.1.1) (record {
        ok = λ x few h. for_each-is x.1.1.0 x.1.1.1.0 x.1.1.1.1.0 x.1.1.1.1.1.1.0 x.1.1.1.1.1.1.1.1
            ∙ ap (λ (l : List Modifier). ForEach l (ty_of x.1.1.1.0) (name_of x.1.1.1.1.0) (expr_of x.1.1.1.1.1.1.0)
            (stmt_of x.1.1.1.1.1.1.1.1)) h.1.1.0
            ∙ same_4 (ForEach ms) h.1.1.1.0 h.1.1.1.1.0 h.1.1.1.1.1.1.0 h.1.1.1.1.1.1.1.1;
        put = λ x few ps. for_each-at x.1.1.0 x.1.1.1.0 x.1.1.1.1.0 x.1.1.1.1.1.1.0 x.1.1.1.1.1.1.1.1 ps;
        size = λ x. omega arith;
        onto = λ rest. refl;
      })
  stmt-made (Labelled x s) f =
      as-made AreAt (and AreAt (a_name x) (and AreAt (a_sign (codes ":")) (maker AreAt (stmt_part s)
      (stmt-made s f.0))))
      (stmt_part (Labelled x s)) (λ x. form.a_labelled x.0 x.1.1) (record {
        ok = λ x few h. labelled-is x.0 x.1.1 ∙ by2 Labelled h.0 h.1.1;
        put = λ x few ps. labelled-at x.0 x.1.1 ps;
        size = λ x. omega arith;
        onto = λ rest. refl;
      })
  stmt-made (LocalClass x ts) f =
      as-made AreAt (maker AreAt (class_part x ts) (class-made x ts f))
      (stmt_part (LocalClass x ts)) (λ i. form.a_local_class i ts) (record {
        ok = λ i few h. local_class-is i ts ∙ ap (λ (n : List ℕ). LocalClass n ts) h;
        put = λ i few ps. local_class-at i ts ps;
        size = λ i. omega arith;
        onto = λ rest. refl;
      })
  stmt-made Empty f =
      as-made AreAt (a_sign (codes ";"))
      (stmt_part Empty) (λ x. form.a_empty) (record {
        ok = λ x few h. empty-is;
        put = λ x few ps. empty-at ps;
        size = λ x. omega arith;
        onto = λ rest. refl;
      })
  stmt-made (Row word ps) f =
      let form = builds word f.0 in
      as-made AreAt (and AreAt (maker AreAt (word_part (is_kept kind.Keyword word) word)
      (word-made (is_kept kind.Keyword word) word refl)) (maker AreAt (pieces_part (row_of word) ps) (pieces-made ps
      (row_of word) f.1 (row-unkept word))))
      (stmt_part (Row word ps)) (λ x. form.make x.0 x.1) (record {
        ok = λ x few h. form.is x.0 x.1 (omega (arith, few)) ∙ ap (Row word) h.1;
        put = λ x few ps. form.at x.0 x.1 (omega (arith, few)) ps;
        size = λ x. omega arith;
        onto = λ rest. refl;
      })

  pieces-made : (ps : Pieces) (row : Slots) → Fits ps row → are_unkept row ≡ true
      → Makes AreAt (pieces_part row ps)
  pieces-made no_piece no_slot f ok =
      as-made AreAt (maker AreAt (nothing AreAt) (nothing-made AreAt)) (pieces_part no_slot no_piece) (λ x. tt)
      (record { ok = λ x s h. refl; put = λ x s ps. refl; size = λ x. omega arith; onto = λ rest. refl })
  pieces-made (a_token t ps) (AKeyword text ▹ row) f ok =
      let quiet = unkept _ _ ok in
      as-made AreAt (and AreAt (a_keyword text quiet.0) (maker AreAt (pieces_part row ps) (pieces-made ps row f.1
      quiet.1))) (pieces_part (AKeyword text ▹ row) (a_token t ps)) (λ x. x.1) (record {
        ok = λ x s h. by2 a_token (sym f.0) h.1;
        put = λ x s ps. refl;
        size = λ x. omega arith;
        onto = λ rest. ap (λ (u : Spelled). u ∷ pieces_onto ps rest) f.0;
      })
  pieces-made (a_token t ps) (ASign text ▹ row) f ok =
      as-made AreAt (and AreAt (a_sign text) (maker AreAt (pieces_part row ps) (pieces-made ps row f.1 ok)))
      (pieces_part (ASign text ▹ row) (a_token t ps)) (λ x. x.1) (record {
        ok = λ x s h. by2 a_token (sym f.0) h.1;
        put = λ x s ps. refl;
        size = λ x. omega arith;
        onto = λ rest. ap (λ (u : Spelled). u ∷ pieces_onto ps rest) f.0;
      })
  pieces-made (an_expr e ps) (AnExpr ▹ row) f ok =
      as-made AreAt (and AreAt (an_expr_of e f.0) (maker AreAt (pieces_part row ps) (pieces-made ps row f.1 ok)))
      (pieces_part (AnExpr ▹ row) (an_expr e ps)) (λ x. x) (record {
        ok = λ x s h. by2 an_expr h.0 h.1;
        put = λ x s ps. refl;
        size = λ x. omega arith;
        onto = λ rest. refl;
      })
  pieces-made (maybe_an_expr e ps) (Until end ▹ row) f ok =
      as-made AreAt (and AreAt (maker AreAt (maybe_expr_part e) (maybe-expr-made e f.0)) (maker AreAt
      (pieces_part row ps)
      (pieces-made ps row f.1 ok))) (pieces_part (Until end ▹ row) (maybe_an_expr e ps)) (λ x. x) (record {
        ok = λ x s h. by2 maybe_an_expr h.0 h.1;
        put = λ x s ps. refl;
        size = λ x. omega arith;
        onto = λ rest. refl;
      })
  pieces-made (a_condition e ps) (ACondition ▹ row) f ok =
      as-made AreAt (and AreAt (a_sign (codes "(")) (and AreAt (an_expr_of e f.0) (and AreAt (a_sign (codes ")"))
      (maker AreAt (pieces_part row ps) (pieces-made ps row f.1 ok)))))
      (pieces_part (ACondition ▹ row) (a_condition e ps)) (λ x. (x.1.0, x.1.1.1)) (record {
        ok = λ x s h. by2 a_condition h.1.0 h.1.1.1;
        put = λ x s ps. refl;
        size = λ x. omega arith;
        onto = λ rest. refl;
      })
  pieces-made (a_body s ps) (ABody ▹ row) f ok =
      as-made AreAt (and AreAt (maker AreAt (stmt_part s) (stmt-made s f.0.0)) (maker AreAt (pieces_part row ps)
      (pieces-made ps row f.1 ok))) (pieces_part (ABody ▹ row) (a_body s ps)) (λ x. x) (record {
        ok = λ x s h. by2 a_body h.0 h.1;
        put = λ x s ps. refl;
        size = λ x. omega arith;
        onto = λ rest. refl;
      })
  pieces-made (a_block ss ps) (ABlock ▹ row) f ok =
      as-made AreAt (and AreAt (a_sign (codes "{")) (and AreAt (maker AreAt (stmts_part ss) (stmts-made ss f.0))
      (and AreAt
      (a_sign (codes "}")) (maker AreAt (pieces_part row ps) (pieces-made ps row f.1 ok)))))
      (pieces_part (ABlock ▹ row) (a_block ss ps)) (λ x. (x.1.0, x.1.1.1)) (record {
        ok = λ x s h. by2 a_block h.1.0 h.1.1.1;
        put = λ x s ps. refl;
        size = λ x. omega arith;
        onto = λ rest. refl;
      })
  pieces-made (maybe_a_name x ps) (MaybeName ▹ row) f ok =
      as-made AreAt (and AreAt (maker AreAt (maybe_name_part x) (maybe-name-made x)) (maker AreAt (pieces_part row ps)
      (pieces-made ps row f ok))) (pieces_part (MaybeName ▹ row) (maybe_a_name x ps)) (λ x. x) (record {
        ok = λ x s h. by2 maybe_a_name h.0 h.1;
        put = λ x s ps. refl;
        size = λ x. omega arith;
        onto = λ rest. refl;
      })
  pieces-made (maybe_behind t e ps) (MaybeBehind text ▹ row) f ok =
      as-made AreAt (and AreAt (maker AreAt (behind_part text e) (behind-made text e f.0.1)) (maker AreAt
      (pieces_part row ps) (pieces-made ps row f.1 ok)))
      (pieces_part (MaybeBehind text ▹ row) (maybe_behind t e ps)) (λ x. x) (record {
        ok = λ x s h. same_3 maybe_behind (sym f.0.0) h.0 h.1;
        put = λ x s ps. refl;
        size = λ x. omega arith;
        onto = λ rest. ap (λ v. maybe_behind_onto v e (pieces_onto ps rest)) f.0.0;
      })
  pieces-made (maybe_resources rs ps) (MaybeResources ▹ row) f ok =
      as-made AreAt (and AreAt (maker AreAt (maybe_resources_part rs) (maybe-resources-made rs f.0)) (maker AreAt
      (pieces_part row ps)
      (pieces-made ps row f.1 ok))) (pieces_part (MaybeResources ▹ row) (maybe_resources rs ps)) (λ x. x) (record {
        ok = λ x s h. by2 maybe_resources h.0 h.1;
        put = λ x s ps. refl;
        size = λ x. omega arith;
        onto = λ rest. refl;
      })
  pieces-made (a_catch_parameter c ps) (ACatchParameter ▹ row) f ok =
      as-made AreAt (and AreAt (maker AreAt (parameter_part c) (parameter-made c f.0)) (maker AreAt (pieces_part row ps)
      (pieces-made ps row f.1 ok))) (pieces_part (ACatchParameter ▹ row) (a_catch_parameter c ps)) (λ x. x) (record {
        ok = λ x s h. by2 a_catch_parameter h.0 h.1;
        put = λ x s ps. refl;
        size = λ x. omega arith;
        onto = λ rest. refl;
      })
  pieces-made (a_switch gs ps) (ASwitch ▹ row) f ok =
      as-made AreAt (and AreAt (a_sign (codes "{")) (and AreAt (maker AreAt (groups_part gs) (groups-made gs f.0))
      (and AreAt
      (a_sign (codes "}")) (maker AreAt (pieces_part row ps) (pieces-made ps row f.1 ok)))))
      (pieces_part (ASwitch ▹ row) (a_switch gs ps)) (λ x. (x.1.0, x.1.1.1)) (record {
        ok = λ x s h. by2 a_switch h.1.0 h.1.1.1;
        put = λ x s ps. refl;
        size = λ x. omega arith;
        onto = λ rest. refl;
      })
  pieces-made (some_part ps) (SomePart ▹ row) f ok =
      as-made AreAt (maker AreAt (pieces_part row ps) (pieces-made ps row f.1 ok))
      (pieces_part (SomePart ▹ row) (some_part ps)) (λ x. x) (record {
        ok = λ x s h. ap some_part h;
        put = λ x s ps. refl;
        size = λ x. omega arith;
        onto = λ rest. refl;
      })
  pieces-made (absent w ps) (Perhaps word sub ▹ row) f ok =
      let quiet = unkept (is_kept kind.Keyword word) (are_unkept sub && are_unkept row) ok in
      as-made AreAt (maker AreAt (pieces_part row ps) (pieces-made ps row f.1 (and_parts (are_unkept sub) _ quiet.1).1))
      (pieces_part (Perhaps word sub ▹ row) (absent w ps)) (λ x. (None, x)) (record {
        ok = λ x s h. by2 absent (sym f.0) h;
        put = λ x s ps. refl;
        size = λ x. omega arith;
        onto = λ rest. refl;
      })
  pieces-made (present w one ps) (Perhaps word sub ▹ row) f ok =
      let quiet = unkept (is_kept kind.Keyword word) (are_unkept sub && are_unkept row) ok in
      let parts = and_parts (are_unkept sub) (are_unkept row) quiet.1 in
      as-made AreAt (and AreAt (a_keyword word quiet.0) (and AreAt (maker AreAt (pieces_part sub one)
      (pieces-made one sub
      f.0.1 parts.0)) (maker AreAt (pieces_part row ps) (pieces-made ps row f.1 parts.1))))
      (pieces_part (Perhaps word sub ▹ row) (present w one ps)) (λ x. (Some x.1.0, x.1.1)) (record {
        ok = λ x s h. same_3 present (sym f.0.0) h.1.0 h.1.1;
        put = λ x s ps. refl;
        size = λ x. omega arith;
        onto = λ rest. ap (λ v. keyword v ∷ pieces_onto one (pieces_onto ps rest)) f.0.0;
      })
  pieces-made (a_list w more ps) (Again word sub ▹ row) f ok =
      let quiet = unkept (is_kept kind.Keyword word) (are_unkept sub && are_unkept row) ok in
      let parts = and_parts (are_unkept sub) (are_unkept row) quiet.1 in
      as-made AreAt (and AreAt (maker AreAt (several_part word sub more) (several-made more sub f.0.1 word quiet.0
      parts.0))
      (maker AreAt (pieces_part row ps) (pieces-made ps row f.1 parts.1)))
      (pieces_part (Again word sub ▹ row) (a_list w more ps)) (λ x. x) (record {
        ok = λ x s h. same_3 a_list (sym f.0.0) h.0 h.1;
        put = λ x s ps. refl;
        size = λ x. omega arith;
        onto = λ rest. ap (λ v. several_onto v more (pieces_onto ps rest)) f.0.0;
      })
  pieces-made _ _ f ok = absurd f

  several-made : (more : Several) (sub : Slots) → EachFits more sub → (word : List ℕ)
      → is_kept kind.Keyword word ≡ false → are_unkept sub ≡ true → Makes AreAt (several_part word sub more)
  several-made no_row sub f word away ok =
      as-made AreAt (maker AreAt (nothing AreAt) (nothing-made AreAt)) (several_part word sub no_row) (λ x. [])
      (record { ok = λ x s h. refl; put = λ x s ps. refl; size = λ x. omega arith; onto = λ rest. refl })
  several-made (row_then ps more) sub f word away ok =
      as-made AreAt (and AreAt (a_keyword word away) (and AreAt (maker AreAt (pieces_part sub ps)
      (pieces-made ps sub f.0
      ok)) (maker AreAt (several_part word sub more) (several-made more sub f.1 word away ok))))
      (several_part word sub (row_then ps more)) (λ x. x.1.0 ∷ x.1.1) (record {
        ok = λ x s h. by2 row_then h.1.0 h.1.1;
        put = λ x s ps. refl;
        size = λ x. omega arith;
        onto = λ rest. refl;
      })

  groups-made : (gs : Groups) → FormedGroups gs → Makes AreAt (groups_part gs)
  groups-made no_group f =
      as-made AreAt (maker AreAt (nothing AreAt) (nothing-made AreAt)) (groups_part no_group) (λ x. [])
      (record { ok = λ x s h. refl; put = λ x s ps. refl; size = λ x. omega arith; onto = λ rest. refl })
  groups-made (group_then [] ss gs) f = absurd cc
  groups-made (group_then (l ∷ ls) ss gs) f =
      as-made AreAt (and AreAt (a_label l f.0.1.0) (and AreAt (maker AreAt (labels_part ls) (labels-made ls f.0.1.1))
      (and AreAt (maker AreAt (stmts_part ss) (stmts-made ss f.1)) (maker AreAt (groups_part gs)
      (groups-made gs f.3)))))
      (groups_part (group_then (l ∷ ls) ss gs)) (λ x. form.a_group (x.0 ∷ x.1.0) x.1.1.0 ∷ x.1.1.1) (record {
        ok = λ x few h.
            ap (λ (g : Group). group_then g.0 g.1 (pack_groups (map group_of x.1.1.1)))
            (group-is (x.0 ∷ x.1.0) x.1.1.0 (omega (arith, few)))
            ∙ same_3 group_then (by2 (λ (y : Label) (ys : List Label). y ∷ ys) h.0 h.1.0) h.1.1.0 h.1.1.1;
        put = λ x few ps.
            group-at (x.0 ∷ x.1.0) x.1.1.0 (omega (arith, few)) (each_puts (map group_places x.1.1.1) ps);
        size = λ x. omega arith;
        onto = λ rest. refl;
      })

  pub stmts-made : (ss : Stmts) → FormedStmts ss → Makes AreAt (stmts_part ss)
  stmts-made no_stmt f =
      as-made AreAt (maker AreAt (nothing AreAt) (nothing-made AreAt)) (stmts_part no_stmt) (λ x. [])
      (record { ok = λ x s h. refl; put = λ x s ps. refl; size = λ x. omega arith; onto = λ rest. refl })
  stmts-made (stmt_then s ss) f =
      as-made AreAt (and AreAt (maker AreAt (stmt_part s) (stmt-made s f.0)) (maker AreAt (stmts_part ss) (stmts-made ss
      f.1))) (stmts_part (stmt_then s ss)) (λ x. x.0 ∷ x.1) (record {
        ok = λ x few h. by2 stmt_then h.0 h.1;
        put = λ x few ps. refl;
        size = λ x. omega arith;
        onto = λ rest. refl;
      })
