-- A statement with statements inside is formed, small, and spells what was taken, over a reader of those inside; and it
-- ends where no keyword could go on with it.
use Rattle.std.proofs.Common.{◌≡◌, ℕ, zero, suc, ◌≤◌, Bool, true, false, not, List, ◌∷◌, length, ◌||◌, subst}
use Rattle.std.proofs.Common.{Some, None, IsTrue, codes, refl, sym, ap, ◌∙◌, arith}
use Rattle.std.specs.Prelude.{bytes_eq}
use Rattle.std.specs.Cmp.Lexicographic.{bytes_decides}
use Rattle.java_tree.specs.declared.words.Spelled.{Spelled}
use Rattle.java_tree.specs.Words.{keyword, identifier, sign}
use Rattle.java_tree.specs.Trees.{Ty, pack_exprs, Modifier, Start, Declares, Runs, Stmt, Labelled, pack_stmts}
use Rattle.java_tree.specs.Spelling.{modifiers_onto, ty_onto, expr_onto, exprs_onto, maybe_expr_onto}
use Rattle.java_tree.specs.Spelling.{start_onto, stmt_onto, stmts_onto}
use Rattle.java_tree.specs.FormedModifiers.{FormedVariableModifiers}
use Rattle.java_tree.specs.Formed.{FormedTy, FormedStart, FormedStmt, FormedStmts, is_body, ends_in_if, goes_on}
use Rattle.java_tree.specs.Formed.{is_joining}
use Rattle.java_tree.specs.Nesting.{ty_nesting, start_nesting, stmt_nesting, stmts_nesting}
use Rattle.java_parser_grammar.specs.BalancedReading.{Reading, before_type_at}
use Rattle.java_parser_grammar.specs.Taking.{◌>>=◌, after_sign, after_keyword, after_name}
use Rattle.java_parser_grammar.specs.Readers.{Readers}
use Rattle.java_parser_grammar.specs.Lookahead.{looks_local, name_and_colon}
use Rattle.java_parser_grammar.specs.StatementReading.{variables_at, condition_at, expr_until}
use Rattle.java_parser_grammar.specs.StatementReading.{runs_until, body_at, stmts_at, braces_at, if_at}
use Rattle.java_parser_grammar.specs.StatementReading.{for_from, each_from, for_typed, for_run, for_at}
use Rattle.java_parser_grammar.proofs.Ensuring.{Ensures, then_ensures, if_ensures, match_ensures}
use Rattle.java_parser_grammar.proofs.Ensuring.{sign_taken, keyword_taken, name_taken}
use Rattle.java_parser_grammar.proofs.ReadableRows.{Bears}
use Rattle.java_parser_grammar.proofs.SoundSteps.{match_none_ensures, GotOne}
use Rattle.java_parser_grammar.proofs.SoundParts.{AreSound, declared_sound, condition_sound}
use Rattle.java_parser_grammar.proofs.SoundTokens.{Taken}
use Rattle.java_parser_grammar.proofs.SoundAnnotations.{before_type_sound}
use Rattle.java_parser_grammar.proofs.SoundParts.{until_sound, runs_sound}

pub record GotStmt (n : ℕ) (ts : List Spelled) (x : Stmt × List Spelled) : Type 0 where
  pub formed : FormedStmt x.0
  pub small : stmt_nesting x.0 ≤ n
  pub spelled : ts ≡ stmt_onto x.0 x.1
  pub bears : Bears x.0 x.1

-- the same of what may be a body
pub record GotBody (n : ℕ) (ts : List Spelled) (x : Stmt × List Spelled) : Type 0 where
  pub got : GotStmt n ts x
  pub body : IsTrue (is_body x.0)

-- what ends in no `if` needs nothing of the rest
pub never_else : (b : Bool) → b ≡ false → {A : Type 0} → b ≡ true → A
never_else b e h = absurd cc

-- behind an `if` without `else`, no `else` stands, and nothing that goes on with its statement
without_else : (s : Stmt) (rest : List Spelled) → after_keyword (codes "else") rest ≡ None → Bears s rest
    → (word : List ℕ) → is_joining word ≡ true → (bytes_eq word (codes "else") || goes_on word s) ≡ true
    → after_keyword word rest ≡ None
without_else s rest none b word j h = by_test (bytes_eq word (codes "else")) refl h where
  by_test : (c : Bool) → bytes_eq word (codes "else") ≡ c → (c || goes_on word s) ≡ true
      → after_keyword word rest ≡ None
  by_test true e k = subst (λ w. after_keyword w rest ≡ None) (sym ((bytes_decides word (codes "else")).0 e)) none
  by_test false e k = b word j k

-- before an `else`, what was read does not end in an `if`
closed_by : (b : Bool) (ts r : List Spelled) → ts ≡ keyword (codes "else") ∷ r
    → (b ≡ true → after_keyword (codes "else") ts ≡ None) → IsTrue (not b)
closed_by false ts r e bears = refl
closed_by true ts r e bears = let taken : Some r ≡ None = ap (after_keyword (codes "else")) (sym e) ∙ bears refl in
    absurd cc

pub name_and_colon_taken : (ts : List Spelled) → Ensures (λ x. ts ≡ identifier x.0 ∷ sign (codes ":") ∷ x.1)
    (name_and_colon ts)
name_and_colon_taken ts =
    let G : List ℕ × List Spelled → Type 0 = λ x. ts ≡ identifier x.0 ∷ sign (codes ":") ∷ x.1 in
    then_ensures (λ x. ts ≡ identifier x.0 ∷ x.1) G (after_name ts) _ (name_taken ts)
    (λ x e. then_ensures (λ r. x.1 ≡ sign (codes ":") ∷ r) G (after_sign (codes ":") x.1) _ (sign_taken (codes ":") x.1)
    (λ r d. e ∙ ap (λ (u : List Spelled). identifier x.0 ∷ u) d))

module _ (readers : Readers) (sound : AreSound readers) where
  -- ---- the forms, over a reader of the statements inside

  module _ (n : ℕ) (read : Reading Stmt) (inside : (ts : List Spelled) → Ensures (GotStmt n ts) (read ts)) where
    pub body_sound : (ts : List Spelled) → Ensures (GotBody n ts) (body_at readers read ts)
    body_sound ts =
        then_ensures (GotStmt n ts) (GotBody n ts) (read ts) _ (inside ts)
        (λ x g. if_ensures (GotBody n ts) (is_body x.0) (Some x) None (λ h. record { got = g; body = h }) (λ h. tt))

    pub if_sound : (ts : List Spelled) → Ensures (GotStmt (suc n) (keyword (codes "if") ∷ ts)) (if_at readers read n ts)
    unfolding if_at
    if_sound ts =
        let G : Stmt × List Spelled → Type 0 = GotStmt (suc n) (keyword (codes "if") ∷ ts) in
        then_ensures _ G (condition_at readers n ts) _ (condition_sound readers sound n ts)
        (λ e g. then_ensures (GotBody n e.1) G (body_at readers read e.1) _ (body_sound e.1)
        (λ s h. match_none_ensures (λ r. s.1 ≡ keyword (codes "else") ∷ r) G (after_keyword (codes "else") s.1) _ _
        (keyword_taken (codes "else") s.1)
        (λ none. record {
          formed = (g.formed, h.got.formed, h.body);
          small = omega (arith, g.small, h.got.small);
          spelled = ap (λ (u : List Spelled). keyword (codes "if") ∷ u) (g.spelled ∙ ap (λ (u : List Spelled). sign
              (codes "(") ∷ expr_onto e.0 (sign (codes ")") ∷ u)) h.got.spelled);
          bears = without_else s.0 s.1 none h.got.bears;
        })
        (λ r d. then_ensures (GotBody n r) G (body_at readers read r) _ (body_sound r)
        (λ t k. record {
          formed = (
            g.formed,
            h.got.formed,
            k.got.formed,
            h.body,
            k.body,
            closed_by (ends_in_if s.0) s.1 r d
                (h.got.bears (codes "else") refl),
          );
          small = omega (arith, g.small, h.got.small, k.got.small);
          spelled = ap (λ (u : List Spelled). keyword (codes "if") ∷ u) (g.spelled ∙ ap (λ (u : List Spelled). sign
              (codes "(") ∷ expr_onto e.0 (sign (codes ")") ∷ u)) (h.got.spelled ∙ ap (stmt_onto s.0) (d
              ∙ ap (λ (u : List Spelled). keyword (codes "else") ∷ u) k.got.spelled)));
          bears = k.got.bears;
        }))))

    -- a `for` whose front is read
    from_sound : (start : Start) (all ts : List Spelled) → FormedStart start → start_nesting start ≤ n → all ≡ keyword
        (codes "for") ∷ sign (codes "(") ∷ start_onto start ts
        → Ensures (GotStmt (suc n) all) (for_from readers read n start ts)
    unfolding for_from
    from_sound start all ts f fits e =
        let G : Stmt × List Spelled → Type 0 = GotStmt (suc n) all in
        then_ensures (λ a. ts ≡ sign (codes ";") ∷ a) G (after_sign (codes ";") ts) _ (sign_taken (codes ";") ts)
        (λ a d. then_ensures _ G (expr_until readers n (codes ";") a) _ (until_sound readers sound n (codes ";") a)
        (λ condition g. then_ensures (λ b. condition.1 ≡ sign (codes ";") ∷ b) G (after_sign (codes ";") condition.1)
        _ (sign_taken (codes ";") condition.1)
        (λ b c. then_ensures _ G (runs_until readers n (codes ")") b) _ (runs_sound readers sound n (codes ")") b)
        (λ updates h. then_ensures (λ r. updates.1 ≡ sign (codes ")") ∷ r) G (after_sign (codes ")") updates.1) _
        (sign_taken (codes ")") updates.1)
        (λ r q. then_ensures (GotBody n r) G (body_at readers read r) _ (body_sound r)
        (λ s k. record {
          formed = (f, g.formed, h.formed, k.got.formed, k.body);
          small = omega (arith, g.small, h.small, k.got.small);
          spelled = e ∙ ap (λ (u : List Spelled). keyword (codes "for") ∷ sign (codes "(") ∷ start_onto start u)
              (d ∙ ap (λ (u : List Spelled). sign (codes ";") ∷ u) (g.spelled ∙ ap (maybe_expr_onto condition.0)
              (c ∙ ap (λ (u : List Spelled). sign (codes ";") ∷ u) (h.spelled ∙ ap (exprs_onto (pack_exprs updates.0))
              (q ∙ ap (λ (u : List Spelled). sign (codes ")") ∷ u) k.got.spelled)))));
          bears = k.got.bears;
        }))))))

    -- a `for` over elements, whose front is read
    each_sound : (ms : List Modifier) (t : Ty) (x : List ℕ) (all ts : List Spelled) → FormedVariableModifiers ms
        → FormedTy t → ty_nesting t ≤ n
        → all ≡ keyword (codes "for") ∷ sign (codes "(") ∷ modifiers_onto ms (ty_onto t (identifier x
        ∷ sign (codes ":") ∷ ts))
        → Ensures (GotStmt (suc n) all) (each_from readers read n ms t x ts)
    unfolding each_from
    each_sound ms t x all ts b f fits e =
        let G : Stmt × List Spelled → Type 0 = GotStmt (suc n) all in
        then_ensures _ G (readers.expr n 0 ts) _ (sound.expr n ts)
        (λ y g. then_ensures (λ r. y.1 ≡ sign (codes ")") ∷ r) G (after_sign (codes ")") y.1) _
        (sign_taken (codes ")") y.1)
        (λ r d. then_ensures (GotBody n r) G (body_at readers read r) _ (body_sound r)
        (λ s k. record {
          formed = (b, f, g.formed, k.got.formed, k.body);
          small = omega (arith, g.small, k.got.small);
          spelled = e ∙ ap (λ (u : List Spelled). keyword (codes "for") ∷ sign (codes "(") ∷ modifiers_onto ms
              (ty_onto t (identifier x ∷ sign (codes ":") ∷ u)))
              (g.spelled ∙ ap (expr_onto y.0) (d ∙ ap (λ (u : List Spelled). sign (codes ")") ∷ u) k.got.spelled));
          bears = k.got.bears;
        })))

    typed_sound : (ts : List Spelled) → Ensures (GotStmt (suc n) (keyword (codes "for") ∷ sign (codes "(") ∷ ts))
        (for_typed readers read n ts)
    unfolding for_typed
    typed_sound ts =
        let all : List Spelled = keyword (codes "for") ∷ sign (codes "(") ∷ ts in
        let G : Stmt × List Spelled → Type 0 = GotStmt (suc n) all in
        then_ensures (Taken FormedVariableModifiers modifiers_onto ts) G (before_type_at ts) _ (before_type_sound ts)
        (λ ms f. then_ensures _ G (readers.ty n ms.1) _ (sound.ty n ms.1)
        (λ t g. match_ensures (λ x. t.1 ≡ identifier x.0 ∷ sign (codes ":") ∷ x.1) G (name_and_colon t.1) _ _
        (name_and_colon_taken t.1)
        (then_ensures _ G (variables_at readers n ms.0 t.0 t.1) _ (declared_sound readers sound n ms.0 ts ms.1
        f.formed f.spelled t g)
        (λ l h. from_sound (Declares l.0) all l.1 h.formed h.small (ap (λ (u : List Spelled). keyword (codes "for")
        ∷ sign (codes "(") ∷ u) h.spelled)))
        (λ x d. each_sound ms.0 t.0 x.0 all x.1 f.formed g.formed g.small
        (ap (λ (u : List Spelled). keyword (codes "for") ∷ sign (codes "(") ∷ u) (f.spelled
        ∙ ap (modifiers_onto ms.0) (g.spelled ∙ ap (ty_onto t.0) d))))))

    run_head_sound : (ts : List Spelled) → Ensures (GotStmt (suc n) (keyword (codes "for") ∷ sign (codes "(") ∷ ts))
        (for_run readers read n ts)
    unfolding for_run
    run_head_sound ts =
        let all : List Spelled = keyword (codes "for") ∷ sign (codes "(") ∷ ts in
        then_ensures _ (GotStmt (suc n) all) (runs_until readers n (codes ";") ts) _ (runs_sound readers sound n
        (codes ";") ts)
        (λ es h. from_sound (Runs (pack_exprs es.0)) all es.1 h.formed h.small (ap (λ (u : List Spelled). keyword
        (codes "for") ∷ sign (codes "(") ∷ u) h.spelled))

    pub for_sound : (ts : List Spelled)
        → Ensures (GotStmt (suc n) (keyword (codes "for") ∷ ts)) (for_at readers read n ts)
    unfolding for_at
    for_sound ts =
        let G : Stmt × List Spelled → Type 0 = GotStmt (suc n) (keyword (codes "for") ∷ ts) in
        then_ensures (λ r. ts ≡ sign (codes "(") ∷ r) G (after_sign (codes "(") ts) _ (sign_taken (codes "(") ts)
        (λ r e. rw e (if_ensures (GotStmt (suc n) (keyword (codes "for") ∷ sign (codes "(") ∷ r)) (looks_local r) _ _
        (λ local. typed_sound r) (λ other. run_head_sound r)))

    pub labelled_sound : (x : List ℕ) (ts : List Spelled)
        → Ensures (GotStmt (suc n) (identifier x ∷ sign (codes ":") ∷ ts))
        (body_at readers read ts >>= λ s. Some (Labelled x s.0, s.1))
    labelled_sound x ts =
        let G : Stmt × List Spelled → Type 0 = GotStmt (suc n) (identifier x ∷ sign (codes ":") ∷ ts) in
        then_ensures (GotBody n ts) G (body_at readers read ts) _ (body_sound ts)
        (λ s h. record {
          formed = (h.got.formed, h.body);
          small = omega (arith, h.got.small);
          spelled = ap (λ (u : List Spelled). identifier x ∷ sign (codes ":") ∷ u) h.got.spelled;
          bears = h.got.bears;
        })

    stmts_sound : (m : ℕ) (ts : List Spelled) → Ensures (GotOne (λ ss. FormedStmts (pack_stmts ss))
        (λ ss. stmts_nesting (pack_stmts ss)) (λ ss r. stmts_onto (pack_stmts ss) (sign (codes "}") ∷ r)) n ts)
        (stmts_at readers read m ts)
    unfolding stmts_at
    stmts_sound zero ts = tt
    stmts_sound (suc m) ts =
        let G : List Stmt × List Spelled → Type 0 =
        GotOne (λ ss. FormedStmts (pack_stmts ss)) (λ ss. stmts_nesting (pack_stmts ss)) (λ ss r. stmts_onto
        (pack_stmts ss) (sign (codes "}") ∷ r)) n ts in
        match_ensures (λ r. ts ≡ sign (codes "}") ∷ r) G (after_sign (codes "}") ts) _ _ (sign_taken (codes "}") ts)
        (then_ensures (GotStmt n ts) G (read ts) _ (inside ts)
        (λ s g. then_ensures _ G (stmts_at readers read m s.1) _ (stmts_sound m s.1)
        (λ ss h. record {
          formed = (g.formed, h.formed);
          small = omega (arith, g.small, h.small);
          spelled = g.spelled
              ∙ ap (stmt_onto s.0) h.spelled;
        })))
        (λ r e. record { formed = tt; small = omega arith; spelled = e })

    pub braces_sound : (ts : List Spelled) → Ensures (GotOne FormedStmts stmts_nesting (λ ss r. stmts_onto ss
        (sign (codes "}") ∷ r)) n ts) (braces_at readers read ts)
    braces_sound ts =
        then_ensures _ (GotOne FormedStmts stmts_nesting (λ ss r. stmts_onto ss (sign (codes "}") ∷ r)) n ts)
        (stmts_at readers read (length ts) ts) _ (stmts_sound (length ts) ts)
        (λ ss h. record { formed = h.formed; small = h.small; spelled = h.spelled })
