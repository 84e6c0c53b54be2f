-- What is read behind the keyword of a row is formed, small, spells what was taken, and ends where no keyword could
-- go on with it.
use Rattle.std.proofs.Common.{◌≡◌, ℕ, zero, suc, ◌≤◌, Bool, true, false, List, [], ◌∷◌, length, ◌&&◌, ◌||◌, subst}
use Rattle.std.proofs.Common.{Some, None, IsTrue, codes, refl, sym, ap, ◌∙◌, arith}
use Rattle.std.specs.Prelude.{bytes_eq, is_some}
use Rattle.std.specs.Cmp.Lexicographic.{bytes_decides}
use Rattle.std.proofs.lemmas.Bool.{and_parts}
use Rattle.java_tree.specs.declared.words.Spelled.{Spelled}
use Rattle.java_tree.specs.Words.{keyword, sign}
use Rattle.java_tree.specs.Trees.{Stmt, Stmts, pack_stmts, Pieces, no_piece, a_body, a_list, absent, some_part}
use Rattle.java_tree.specs.Trees.{Several, no_row, row_then, Groups}
use Rattle.java_tree.specs.Spelling.{expr_onto, maybe_expr_onto, stmt_onto, stmts_onto, block_onto, pieces_onto}
use Rattle.java_tree.specs.Spelling.{several_onto, groups_onto, labels_onto, maybe_name_onto, maybe_behind_onto}
use Rattle.java_tree.specs.Spelling.{maybe_resources_onto, catch_parameter_onto}
use Rattle.java_tree.specs.Formed.{FormedStmts, FormedGroups, Fits, EachFits, go_on, is_joining, are_left_out}
use Rattle.java_tree.specs.FormedModifiers.{has_some}
use Rattle.java_tree.specs.Formed.{some_stands, has_stmt, has_group}
use Rattle.java_tree.specs.Nesting.{stmts_nesting, block_nesting, pieces_nesting, several_nesting, groups_nesting}
use Rattle.java_tree.specs.Rows.{AKeyword, ASign, AnExpr, Until, MaybeName, MaybeBehind, ACondition, ABody, ABlock}
use Rattle.java_tree.specs.Rows.{ASwitch, MaybeResources, ACatchParameter, Again, Perhaps, SomePart, Slots, no_slot}
use Rattle.java_tree.specs.Rows.{◌▹◌, is_row, row_of}
use Rattle.java_parser_grammar.specs.BalancedReading.{Reading}
use Rattle.java_parser_grammar.specs.Taking.{after_sign, after_keyword}
use Rattle.java_parser_grammar.specs.Readers.{Readers}
use Rattle.java_parser_grammar.specs.StatementReading.{condition_at, expr_until, body_at, pieces_at, row_at, again_at}
use Rattle.java_parser_grammar.specs.StatementReading.{maybe_name_at, maybe_behind_at, maybe_resources_at}
use Rattle.java_parser_grammar.specs.StatementReading.{catch_parameter_at, begins_label, labels_at, group_stmts_at}
use Rattle.java_parser_grammar.specs.StatementReading.{groups_at, switch_at}
use Rattle.java_parser_grammar.proofs.ReadableRows.{Bears, RowEnd}
use Rattle.java_parser_grammar.proofs.Ensuring.{Ensures, weaker, then_ensures, if_ensures, sign_taken, keyword_taken}
use Rattle.java_parser_grammar.proofs.SoundSteps.{match_none_ensures, GotOne}
use Rattle.java_parser_grammar.proofs.SoundForms.{GotStmt, GotBody, never_else, body_sound}
use Rattle.java_parser_grammar.proofs.SoundParts.{AreSound, condition_sound, until_sound}
use Rattle.java_parser_grammar.proofs.SoundRowParts.{GotLabels, labels_sound, maybe_name_sound, behind_sound}
use Rattle.java_parser_grammar.proofs.SoundRowParts.{resources_sound, parameter_sound}
use Rattle.racer_base.proofs.Tests.{or_second}

-- what stands behind the keyword of a row
record GotPieces (n : ℕ) (row : Slots) (ts : List Spelled) (x : Pieces × List Spelled) : Type 0 where
  fits : Fits x.0 row
  small : pieces_nesting x.0 ≤ n
  spelled : ts ≡ pieces_onto x.0 x.1
  bears : RowEnd x.0 x.1

-- the same of rows that begin with this keyword
record GotSeveral (n : ℕ) (sub : Slots) (word : List ℕ) (ts : List Spelled) (x : Several × List Spelled) : Type 0 where
  fits : EachFits x.0 sub
  small : several_nesting x.0 ≤ n
  spelled : ts ≡ several_onto word x.0 x.1
  ends : after_keyword word x.1 ≡ None

module _ (readers : Readers) (sound : AreSound readers) where
  last_bears : (s : Stmt) (ps : Pieces) (r rest : List Spelled) → r ≡ pieces_onto ps rest → Bears s r
      → RowEnd ps rest → RowEnd (a_body s ps) rest
  last_bears s no_piece r rest e b c = λ w j h. ap (after_keyword w) (sym e) ∙ b w j h
  last_bears s _ r rest e b c = c

  -- pieces that are left out spell nothing
  left_out : (ps : Pieces) (rest : List Spelled) → are_left_out ps ≡ true → pieces_onto ps rest ≡ rest
  left_out no_piece rest h = refl
  left_out (a_list word no_row ps) rest h = left_out ps rest h
  left_out (a_list word (row_then p more) ps) rest h = absurd cc
  left_out (absent word ps) rest h = left_out ps rest h
  left_out _ rest h = absurd cc

  -- this keyword does not stand before the pieces, and so not behind them where they are left out
  stops : (word : List ℕ) (ps : Pieces) (r rest : List Spelled) → r ≡ pieces_onto ps rest
      → after_keyword word r ≡ None → RowEnd ps rest → (w : List ℕ) → is_joining w ≡ true
      → ((are_left_out ps && bytes_eq w word) || go_on w ps) ≡ true → after_keyword w rest ≡ None
  stops word ps r rest e none b w j h = by_test (are_left_out ps && bytes_eq w word) refl h where
    by_test : (c : Bool) → (are_left_out ps && bytes_eq w word) ≡ c → (c || go_on w ps) ≡ true
        → after_keyword w rest ≡ None
    by_test true d k =
        subst (λ v. after_keyword v rest ≡ None) (sym ((bytes_decides w word).0 (and_parts (are_left_out ps) _ d).1))
        (ap (after_keyword word) (sym (e ∙ left_out ps rest (and_parts _ (bytes_eq w word) d).0)) ∙ none)
    by_test false d k = b w j k

  module _ (n : ℕ) (read : Reading Stmt) (block : Reading Stmts)
      (inside : (ts : List Spelled) → Ensures (GotStmt n ts) (read ts)) (blocks : (ts : List Spelled)
      → Ensures (GotOne FormedStmts block_nesting block_onto n ts) (block ts)) where
    -- statements until a label or a `}` stands
    record GotGroup (ts : List Spelled) (x : List Stmt × List Spelled) : Type 0 where
      formed : FormedStmts (pack_stmts x.0)
      small : stmts_nesting (pack_stmts x.0) ≤ n
      spelled : ts ≡ stmts_onto (pack_stmts x.0) x.1
      ends : (begins_label readers x.1 || is_some (after_sign (codes "}") x.1)) ≡ true

    group_sound : (m : ℕ) (ts : List Spelled) → Ensures (GotGroup ts) (group_stmts_at readers read m ts)
    unfolding group_stmts_at
    group_sound zero ts = tt
    group_sound (suc m) ts =
        let G : List Stmt × List Spelled → Type 0 = GotGroup ts in
        if_ensures G (begins_label readers ts || is_some (after_sign (codes "}") ts)) _ _
        (λ here. record { formed = tt; small = omega arith; spelled = refl; ends = here })
        (λ away. then_ensures (GotStmt n ts) G (read ts) _ (inside ts)
        (λ s g. then_ensures (GotGroup s.1) G (group_stmts_at readers read m s.1) _ (group_sound m s.1)
        (λ ss h. record {
          formed = (g.formed, h.formed);
          small = omega (arith, g.small, h.small);
          spelled = g.spelled ∙ ap (stmt_onto s.0) h.spelled;
          ends = h.ends;
        })))

    -- groups and the `}`; none stands before a `}`
    record GotGroups (ts : List Spelled) (x : Groups × List Spelled) : Type 0 where
      formed : FormedGroups x.0
      small : groups_nesting x.0 ≤ n
      spelled : ts ≡ groups_onto x.0 (sign (codes "}") ∷ x.1)
      none : is_some (after_sign (codes "}") ts) ≡ true → has_group x.0 ≡ false

    -- a group without a statement ends at the `}`, since no label stands behind its labels
    last_is_empty : (ss : List Stmt) (ts r : List Spelled) (gs : Groups) → ts ≡ stmts_onto (pack_stmts ss) r
        → begins_label readers ts ≡ false
        → (begins_label readers r || is_some (after_sign (codes "}") r)) ≡ true
        → (is_some (after_sign (codes "}") r) ≡ true → has_group gs ≡ false)
        → IsTrue (has_group gs) → IsTrue (has_stmt (pack_stmts ss))
    last_is_empty (s ∷ ss) ts r gs e b ends none some = refl
    last_is_empty [] ts r gs e b ends none some =
        let away : begins_label readers r ≡ false = ap (begins_label readers) (sym e) ∙ b in
        let gone : has_group gs ≡ false = none (or_second (begins_label readers r) _ away ends) in
        absurd cc

    groups_sound : (m : ℕ) (ts : List Spelled) → Ensures (GotGroups ts) (groups_at readers read n m ts)
    unfolding groups_at
    groups_sound zero ts = tt
    groups_sound (suc m) ts =
        let G : Groups × List Spelled → Type 0 = GotGroups ts in
        match_none_ensures (λ r. ts ≡ sign (codes "}") ∷ r) G (after_sign (codes "}") ts) _ _
        (sign_taken (codes "}") ts)
        (λ no_brace. then_ensures (GotLabels readers sound n (length ts) ts) G (labels_at readers n (length ts) ts) _
        (labels_sound readers sound n (length ts) ts)
        (λ ls g. if_ensures G (has_some ls.0) _ None
        (λ some. then_ensures (GotGroup ls.1) G (group_stmts_at readers read (suc (length ls.1)) ls.1) _
        (group_sound (suc (length ls.1)) ls.1)
        (λ ss h. then_ensures (GotGroups ss.1) G (groups_at readers read n m ss.1) _ (groups_sound m ss.1)
        (λ gs k. record {
          formed = (
            (some, g.formed),
            h.formed,
            last_is_empty ss.0 ls.1 ss.1 gs.0 h.spelled (g.ends (omega arith)) h.ends k.none,
            k.formed,
          );
          small = omega (arith, g.small, h.small, k.small);
          spelled = g.spelled ∙ ap (labels_onto ls.0) (h.spelled ∙ ap (stmts_onto (pack_stmts ss.0)) k.spelled);
          none = λ brace. let away : is_some (after_sign (codes "}") ts) ≡ false = ap is_some no_brace in absurd cc;
        })))
        (λ other. tt)))
        (λ r e. record { formed = tt; small = omega arith; spelled = e; none = λ brace. refl })

    switch_sound : (ts : List Spelled) → Ensures (GotOne FormedGroups groups_nesting
        (λ gs r. sign (codes "{") ∷ groups_onto gs (sign (codes "}") ∷ r)) n ts) (switch_at readers read n ts)
    switch_sound ts =
        let G : Groups × List Spelled → Type 0 = GotOne FormedGroups groups_nesting
        (λ gs r. sign (codes "{") ∷ groups_onto gs (sign (codes "}") ∷ r)) n ts in
        then_ensures (λ r. ts ≡ sign (codes "{") ∷ r) G (after_sign (codes "{") ts) _ (sign_taken (codes "{") ts)
        (λ r e. weaker (GotGroups r) G (groups_at readers read n (length r) r) (λ gs h. record {
          formed = h.formed;
          small = h.small;
          spelled = e ∙ ap (λ (u : List Spelled). sign (codes "{") ∷ u) h.spelled;
        }) (groups_sound (length r) r))

    again_sound : (one : Reading Pieces) (sub : Slots) → ((ts : List Spelled) → Ensures (GotPieces n sub ts) (one ts))
        → (word : List ℕ) (m : ℕ) (ts : List Spelled)
        → Ensures (GotSeveral n sub word ts) (again_at readers one word m ts)
    unfolding again_at
    again_sound one sub each word zero ts = tt
    again_sound one sub each word (suc m) ts =
        let G : Several × List Spelled → Type 0 = GotSeveral n sub word ts in
        match_none_ensures (λ r. ts ≡ keyword word ∷ r) G (after_keyword word ts) _ _ (keyword_taken word ts)
        (λ none. record { fits = tt; small = omega arith; spelled = refl; ends = none })
        (λ r e. then_ensures (GotPieces n sub r) G (one r) _ (each r)
        (λ ps g. then_ensures _ G (again_at readers one word m ps.1) _ (again_sound one sub each word m ps.1)
        (λ more h. record {
          fits = (g.fits, h.fits);
          small = omega (arith, g.small, h.small);
          spelled = e ∙ ap (λ (u : List Spelled). keyword word ∷ u) (g.spelled ∙ ap (pieces_onto ps.0) h.spelled);
          ends = h.ends;
        })))

    pieces_sound : (row : Slots) (ts : List Spelled)
        → Ensures (GotPieces n row ts) (pieces_at readers read block n row ts)
    unfolding pieces_at
    pieces_sound no_slot ts =
        record { fits = tt; small = omega arith; spelled = refl; bears = λ w j. never_else false refl }
    pieces_sound (AKeyword text ▹ row) ts =
        let G : Pieces × List Spelled → Type 0 = GotPieces n (AKeyword text ▹ row) ts in
        then_ensures (λ r. ts ≡ keyword text ∷ r) G (after_keyword text ts) _ (keyword_taken text ts)
        (λ r e. then_ensures (GotPieces n row r) G (pieces_at readers read block n row r) _ (pieces_sound row r)
        (λ ps g. record {
          fits = (refl, g.fits);
          small = g.small;
          spelled = e ∙ ap (λ (u : List Spelled). keyword text ∷ u) g.spelled;
          bears = g.bears;
        }))
    pieces_sound (ASign text ▹ row) ts =
        let G : Pieces × List Spelled → Type 0 = GotPieces n (ASign text ▹ row) ts in
        then_ensures (λ r. ts ≡ sign text ∷ r) G (after_sign text ts) _ (sign_taken text ts)
        (λ r e. then_ensures (GotPieces n row r) G (pieces_at readers read block n row r) _ (pieces_sound row r)
        (λ ps g. record {
          fits = (refl, g.fits);
          small = g.small;
          spelled = e ∙ ap (λ (u : List Spelled). sign text ∷ u) g.spelled;
          bears = g.bears;
        }))
    pieces_sound (AnExpr ▹ row) ts =
        let G : Pieces × List Spelled → Type 0 = GotPieces n (AnExpr ▹ row) ts in
        then_ensures _ G (readers.expr n 0 ts) _ (sound.expr n ts)
        (λ e h. then_ensures (GotPieces n row e.1) G (pieces_at readers read block n row e.1) _ (pieces_sound row e.1)
        (λ ps g. record {
          fits = (h.formed, g.fits);
          small = omega (arith, h.small, g.small);
          spelled = h.spelled ∙ ap (expr_onto e.0) g.spelled;
          bears = g.bears;
        }))
    pieces_sound (Until end ▹ row) ts =
        let G : Pieces × List Spelled → Type 0 = GotPieces n (Until end ▹ row) ts in
        then_ensures _ G (expr_until readers n end ts) _ (until_sound readers sound n end ts)
        (λ e h. then_ensures (GotPieces n row e.1) G (pieces_at readers read block n row e.1) _ (pieces_sound row e.1)
        (λ ps g. record {
          fits = (h.formed, g.fits);
          small = omega (arith, h.small, g.small);
          spelled = h.spelled ∙ ap (maybe_expr_onto e.0) g.spelled;
          bears = g.bears;
        }))
    pieces_sound (ACondition ▹ row) ts =
        let G : Pieces × List Spelled → Type 0 = GotPieces n (ACondition ▹ row) ts in
        then_ensures _ G (condition_at readers n ts) _ (condition_sound readers sound n ts)
        (λ e h. then_ensures (GotPieces n row e.1) G (pieces_at readers read block n row e.1) _ (pieces_sound row e.1)
        (λ ps g. record {
          fits = (h.formed, g.fits);
          small = omega (arith, h.small, g.small);
          spelled = h.spelled ∙ ap (λ (u : List Spelled). sign (codes "(") ∷ expr_onto e.0 (sign (codes ")") ∷ u))
              g.spelled;
          bears = g.bears;
        }))
    pieces_sound (ABody ▹ row) ts =
        let G : Pieces × List Spelled → Type 0 = GotPieces n (ABody ▹ row) ts in
        then_ensures (GotBody n ts) G (body_at readers read ts) _ (body_sound readers sound n read inside ts)
        (λ s h. then_ensures (GotPieces n row s.1) G (pieces_at readers read block n row s.1) _ (pieces_sound row s.1)
        (λ ps g. record {
          fits = ((h.got.formed, h.body), g.fits);
          small = omega (arith, h.got.small, g.small);
          spelled = h.got.spelled ∙ ap (stmt_onto s.0) g.spelled;
          bears = last_bears s.0 ps.0 s.1 ps.1 g.spelled h.got.bears g.bears;
        }))
    pieces_sound (ABlock ▹ row) ts =
        let G : Pieces × List Spelled → Type 0 = GotPieces n (ABlock ▹ row) ts in
        then_ensures _ G (block ts) _ (blocks ts)
        (λ ss h. then_ensures (GotPieces n row ss.1) G (pieces_at readers read block n row ss.1) _ (pieces_sound row
        ss.1)
        (λ ps g. record {
          fits = (h.formed, g.fits);
          small = omega (arith, h.small, g.small);
          spelled = h.spelled ∙ ap (block_onto ss.0) g.spelled;
          bears = g.bears;
        }))
    pieces_sound (MaybeName ▹ row) ts =
        let G : Pieces × List Spelled → Type 0 = GotPieces n (MaybeName ▹ row) ts in
        then_ensures _ G (maybe_name_at readers ts) _ (maybe_name_sound readers sound n ts)
        (λ x h. then_ensures (GotPieces n row x.1) G (pieces_at readers read block n row x.1) _ (pieces_sound row x.1)
        (λ ps g. record {
          fits = g.fits;
          small = g.small;
          spelled = h.spelled ∙ ap (maybe_name_onto x.0) g.spelled;
          bears = g.bears;
        }))
    pieces_sound (MaybeBehind text ▹ row) ts =
        let G : Pieces × List Spelled → Type 0 = GotPieces n (MaybeBehind text ▹ row) ts in
        then_ensures _ G (maybe_behind_at readers n text ts) _ (behind_sound readers sound n text ts)
        (λ x h. then_ensures (GotPieces n row x.1) G (pieces_at readers read block n row x.1) _ (pieces_sound row x.1)
        (λ ps g. record {
          fits = ((refl, h.formed), g.fits);
          small = omega (arith, h.small, g.small);
          spelled = h.spelled ∙ ap (maybe_behind_onto text x.0) g.spelled;
          bears = g.bears;
        }))
    pieces_sound (MaybeResources ▹ row) ts =
        let G : Pieces × List Spelled → Type 0 = GotPieces n (MaybeResources ▹ row) ts in
        then_ensures _ G (maybe_resources_at readers n ts) _ (resources_sound readers sound n ts)
        (λ x h. then_ensures (GotPieces n row x.1) G (pieces_at readers read block n row x.1) _ (pieces_sound row x.1)
        (λ ps g. record {
          fits = (h.formed, g.fits);
          small = omega (arith, h.small, g.small);
          spelled = h.spelled ∙ ap (maybe_resources_onto x.0) g.spelled;
          bears = g.bears;
        }))
    pieces_sound (ACatchParameter ▹ row) ts =
        let G : Pieces × List Spelled → Type 0 = GotPieces n (ACatchParameter ▹ row) ts in
        then_ensures _ G (catch_parameter_at readers n ts) _ (parameter_sound readers sound n ts)
        (λ x h. then_ensures (GotPieces n row x.1) G (pieces_at readers read block n row x.1) _ (pieces_sound row x.1)
        (λ ps g. record {
          fits = (h.formed, g.fits);
          small = omega (arith, h.small, g.small);
          spelled = h.spelled ∙ ap (catch_parameter_onto x.0) g.spelled;
          bears = g.bears;
        }))
    pieces_sound (ASwitch ▹ row) ts =
        let G : Pieces × List Spelled → Type 0 = GotPieces n (ASwitch ▹ row) ts in
        then_ensures _ G (switch_at readers read n ts) _ (switch_sound ts)
        (λ x h. then_ensures (GotPieces n row x.1) G (pieces_at readers read block n row x.1) _ (pieces_sound row x.1)
        (λ ps g. record {
          fits = (h.formed, g.fits);
          small = omega (arith, h.small, g.small);
          spelled = h.spelled ∙ ap (λ (u : List Spelled). sign (codes "{") ∷ groups_onto x.0 (sign (codes "}") ∷ u))
              g.spelled;
          bears = g.bears;
        }))
    pieces_sound (SomePart ▹ row) ts =
        let G : Pieces × List Spelled → Type 0 = GotPieces n (SomePart ▹ row) ts in
        then_ensures (GotPieces n row ts) G (pieces_at readers read block n row ts) _ (pieces_sound row ts)
        (λ ps g. if_ensures G (some_stands ps.0) (Some (some_part ps.0, ps.1)) None (λ some. record {
          fits = (some, g.fits);
          small = g.small;
          spelled = g.spelled;
          bears = g.bears;
        }) (λ other. tt))
    pieces_sound (Perhaps word sub ▹ row) ts =
        let G : Pieces × List Spelled → Type 0 = GotPieces n (Perhaps word sub ▹ row) ts in
        match_none_ensures (λ r. ts ≡ keyword word ∷ r) G (after_keyword word ts) _ _ (keyword_taken word ts)
        (λ none. then_ensures (GotPieces n row ts) G (pieces_at readers read block n row ts) _ (pieces_sound row ts)
        (λ ps g. record {
          fits = (refl, g.fits);
          small = g.small;
          spelled = g.spelled;
          bears = stops word ps.0 ts ps.1 g.spelled none g.bears;
        }))
        (λ r e. then_ensures (GotPieces n sub r) G (pieces_at readers read block n sub r) _ (pieces_sound sub r)
        (λ one h. then_ensures (GotPieces n row one.1) G (pieces_at readers read block n row one.1) _
        (pieces_sound row one.1)
        (λ ps g. record {
          fits = ((refl, h.fits), g.fits);
          small = omega (arith, h.small, g.small);
          spelled = e ∙ ap (λ (u : List Spelled). keyword word ∷ u) (h.spelled ∙ ap (pieces_onto one.0) g.spelled);
          bears = g.bears;
        })))
    pieces_sound (Again word sub ▹ row) ts =
        let G : Pieces × List Spelled → Type 0 = GotPieces n (Again word sub ▹ row) ts in
        then_ensures _ G (again_at readers (pieces_at readers read block n sub) word (suc (length ts)) ts) _
        (again_sound (pieces_at readers read block n sub) sub (pieces_sound sub) word (suc (length ts)) ts)
        (λ more h. then_ensures (GotPieces n row more.1) G (pieces_at readers read block n row more.1) _
        (pieces_sound row more.1)
        (λ ps g. record {
          fits = ((refl, h.fits), g.fits);
          small = omega (arith, h.small, g.small);
          spelled = h.spelled ∙ ap (several_onto word more.0) g.spelled;
          bears = stops word ps.0 more.1 ps.1 g.spelled h.ends g.bears;
        }))

    pub row_sound : (word : List ℕ) → IsTrue (is_row word) → (ts : List Spelled)
        → Ensures (GotStmt (suc n) (keyword word ∷ ts)) (row_at readers read block n word ts)
    row_sound word is ts =
        then_ensures (GotPieces n (row_of word) ts) (GotStmt (suc n) (keyword word ∷ ts))
        (pieces_at readers read block n (row_of word) ts) _ (pieces_sound (row_of word) ts)
        (λ ps g. record {
          formed = (is, g.fits);
          small = omega (arith, g.small);
          spelled = ap (λ (u : List Spelled). keyword word ∷ u) g.spelled;
          bears = g.bears;
        })
