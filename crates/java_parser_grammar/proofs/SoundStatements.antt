-- A statement that is read is formed, small, spells what was taken, and ends where no keyword could go on with it.
use Rattle.std.proofs.Common.{◌≡◌, ℕ, zero, suc, Bool, true, false, not, if◌then◌else◌, List, [], ◌∷◌, ◌&&◌}
use Rattle.std.proofs.Common.{Option, Some, None, IsTrue, codes, refl, ap, ◌∙◌, arith}
use Rattle.java_lexer.specs.declared.token.TokenKind.{TokenKind}
use Rattle.java_lexer.specs.declared.token.TokenKind.TheVariants as kind
use Rattle.java_tree.specs.declared.words.Spelled.{Spelled}
use Rattle.java_tree.specs.Words.{keyword, identifier, sign}
use Rattle.java_tree.specs.Brackets.{is_sign}
use Rattle.java_tree.specs.Trees.{Stmt, Block, Stmts}
use Rattle.java_tree.specs.Spelling.{expr_onto, locals_onto, block_onto}
use Rattle.java_tree.specs.Formed.{FormedStmts}
use Rattle.java_tree.specs.Nesting.{block_nesting}
use Rattle.java_tree.specs.Rows.{is_row}
use Rattle.java_parser_grammar.specs.BalancedReading.{Reading}
use Rattle.java_tree.specs.Brackets.{is_keyword, is_keyword_kind}
use Rattle.java_parser_grammar.specs.Taking.{◌>>=◌, match_option, after_sign}
use Rattle.java_parser_grammar.specs.Readers.{Readers}
use Rattle.java_parser_grammar.specs.Lookahead.{looks_local, name_and_colon, StatementLead, Semicolon, Brace, IfWord}
use Rattle.java_parser_grammar.specs.Lookahead.{ForWord, RowWord, LabelWord, ClassWord, Other, begins_class}
use Rattle.java_parser_grammar.specs.Lookahead.{statement_lead, begins_row}
use Rattle.java_parser_grammar.specs.StatementReading.{locals_at, run_at, braces_at, local_at, run_line_at, by_lead}
use Rattle.java_parser_grammar.specs.StatementReading.{local_class_at, stmt_at, block_at}
use Rattle.java_parser_grammar.proofs.SoundTokens.{GotClass, local_class_sound}
use Rattle.java_parser_grammar.proofs.Taken.{sign_is}
use Rattle.java_parser_grammar.proofs.Ensuring.{Ensures, weaker, then_ensures, if_ensures, keyword_is, sign_taken}
use Rattle.java_parser_grammar.proofs.SoundSteps.{GotOne}
use Rattle.java_parser_grammar.proofs.SoundParts.{AreSound, locals_sound, run_sound}
use Rattle.java_parser_grammar.proofs.SoundForms.{GotStmt, never_else, name_and_colon_taken, if_sound, for_sound}
use Rattle.java_parser_grammar.proofs.SoundForms.{labelled_sound, braces_sound}
use Rattle.java_parser_grammar.proofs.SoundRows.{row_sound}

-- ---- the first token

-- what a lead says of the tokens
abbrev LeadIs : List Spelled → StatementLead → Type 0
LeadIs ts (Semicolon r) = ts ≡ sign (codes ";") ∷ r
LeadIs ts (Brace r) = ts ≡ sign (codes "{") ∷ r
LeadIs ts (IfWord r) = ts ≡ keyword (codes "if") ∷ r
LeadIs ts (ForWord r) = ts ≡ keyword (codes "for") ∷ r
LeadIs ts (RowWord word r) = (ts ≡ keyword word ∷ r) × IsTrue (is_row word)
LeadIs ts (LabelWord x r) = ts ≡ identifier x ∷ sign (codes ":") ∷ r
LeadIs ts (ClassWord r) = ts ≡ r
LeadIs ts Other = Unit {0}

row_word_is : (t : Spelled) → begins_row t ≡ true → (t ≡ keyword t.text) × IsTrue (is_row t.text)
row_word_is t h = by_parts t.kind t.text t.glued h where
  by_parts : (k : TokenKind) (u : List ℕ) (g : Bool) → (is_keyword_kind k && (not g && is_row u)) ≡ true
      → (record { kind = k; text = u; glued = g } ≡ keyword u) × IsTrue (is_row u)
  by_parts kind.Keyword u false e = (refl, e)
  by_parts kind.Keyword u true e = absurd cc
  by_parts _ u g e = absurd cc

if_leads : (ts : List Spelled) (b : Bool) (x y : StatementLead) → (IsTrue b → LeadIs ts x) → LeadIs ts y
    → LeadIs ts (if b then x else y)
if_leads ts true x y p q = p refl
if_leads ts false x y p q = q

label_leads : (ts : List Spelled) (o : Option (List ℕ × List Spelled)) → Ensures (λ x. ts ≡ identifier x.0
    ∷ sign (codes ":") ∷ x.1) o → LeadIs ts (match_option o Other (λ x. LabelWord x.0 x.1))
label_leads ts None e = tt
label_leads ts (Some x) e = e

lead_is : (ts : List Spelled) → LeadIs ts (statement_lead ts)
lead_is [] = tt
lead_is (t ∷ ts) =
    if_leads (t ∷ ts) (begins_row t) (RowWord t.text ts) _ (λ h. (
      ap (λ (u : Spelled). u ∷ ts) (row_word_is t h).0,
      (row_word_is t h).1,
    ))
    (if_leads (t ∷ ts) (is_sign (codes ";") t) (Semicolon ts) _ (λ h. ap (λ (u : Spelled). u ∷ ts) (sign_is (codes ";")
    t h))
    (if_leads (t ∷ ts) (is_sign (codes "{") t) (Brace ts) _ (λ h. ap (λ (u : Spelled). u ∷ ts) (sign_is (codes "{") t
    h))
    (if_leads (t ∷ ts) (is_keyword (codes "if") t) (IfWord ts) _ (λ h. ap (λ (u : Spelled). u ∷ ts)
    (keyword_is (codes "if") t h))
    (if_leads (t ∷ ts) (is_keyword (codes "for") t) (ForWord ts) _ (λ h. ap (λ (u : Spelled). u ∷ ts)
    (keyword_is (codes "for") t h))
    (if_leads (t ∷ ts) (begins_class (t ∷ ts)) (ClassWord (t ∷ ts)) _ (λ h. refl)
    (label_leads (t ∷ ts) (name_and_colon (t ∷ ts)) (name_and_colon_taken (t ∷ ts))))))))

module _ (readers : Readers) (sound : AreSound readers) where
  local_sound : (n : ℕ) (ts : List Spelled) → Ensures (GotStmt (suc n) ts) (local_at readers n ts)
  unfolding local_at
  local_sound n ts =
      let G : Stmt × List Spelled → Type 0 = GotStmt (suc n) ts in
      then_ensures _ G (locals_at readers n ts) _ (locals_sound readers sound n ts)
      (λ l g. then_ensures (λ r. l.1 ≡ sign (codes ";") ∷ r) G (after_sign (codes ";") l.1) _ (sign_taken (codes ";")
      l.1)
      (λ r d. record {
        formed = g.formed;
        small = omega (arith, g.small);
        spelled = g.spelled ∙ ap (locals_onto l.0)
            d;
        bears = λ w j. never_else false refl;
      }))

  run_line_sound : (n : ℕ) (ts : List Spelled) → Ensures (GotStmt (suc n) ts) (run_line_at readers n ts)
  unfolding run_line_at
  run_line_sound n ts =
      let G : Stmt × List Spelled → Type 0 = GotStmt (suc n) ts in
      then_ensures _ G (run_at readers n ts) _ (run_sound readers sound n ts)
      (λ e g. then_ensures (λ r. e.1 ≡ sign (codes ";") ∷ r) G (after_sign (codes ";") e.1) _ (sign_taken (codes ";")
      e.1)
      (λ r d. record {
        formed = g.formed;
        small = omega (arith, g.small);
        spelled = g.spelled ∙ ap (expr_onto e.0) d;
        bears = λ w j. never_else false refl;
      }))

  -- ---- the theorem

  module _ (n : ℕ) (read : Reading Stmt) (block : Reading Stmts)
      (inside : (ts : List Spelled) → Ensures (GotStmt n ts) (read ts)) (blocks : (ts : List Spelled)
      → Ensures (GotOne FormedStmts block_nesting block_onto n ts) (block ts)) where
    block_form_sound : (ts r : List Spelled) → ts ≡ sign (codes "{") ∷ r → Ensures (GotStmt (suc n) ts)
        (braces_at readers read r >>= λ ss. Some (Block ss.0, ss.1))
    block_form_sound ts r e =
        then_ensures _ (GotStmt (suc n) ts) (braces_at readers read r) _ (braces_sound readers sound n read inside r)
        (λ ss h. record {
          formed = h.formed;
          small = omega (arith, h.small);
          spelled = e ∙ ap (λ (u : List Spelled). sign (codes "{") ∷ u) h.spelled;
          bears = λ w j. never_else false refl;
        })

    by_lead_sound : (lead : StatementLead) (ts : List Spelled) → LeadIs ts lead → Ensures (GotStmt (suc n) ts)
        (by_lead readers read block n lead ts)
    by_lead_sound (Semicolon r) ts e =
        record { formed = tt; small = omega arith; spelled = e; bears = λ w j. never_else false refl }
    by_lead_sound (Brace r) ts e = block_form_sound ts r e
    by_lead_sound (IfWord r) ts e = rw e (if_sound readers sound n read inside r)
    by_lead_sound (ForWord r) ts e = rw e (for_sound readers sound n read inside r)
    by_lead_sound (RowWord word r) ts e = rw e.0 (row_sound readers sound n read block inside blocks word e.1 r)
    by_lead_sound (LabelWord x r) ts e = rw e (labelled_sound readers sound n read inside x r)
    by_lead_sound (ClassWord r) ts e =
        rw e (then_ensures (GotClass r) (GotStmt (suc n) r) (local_class_at r) _ (local_class_sound r)
        (λ c g. record {
          formed = g.formed;
          small = omega arith;
          spelled = g.spelled;
          bears = λ w j. never_else false refl;
        }))
    by_lead_sound Other ts e = if_ensures (GotStmt (suc n) ts) (looks_local ts) _ _ (λ local. local_sound n ts)
        (λ other. run_line_sound n ts)

  braced_sound : (n : ℕ) (read : Reading Stmt) → ((ts : List Spelled) → Ensures (GotStmt n ts) (read ts))
      → (ts : List Spelled)
      → Ensures (GotOne FormedStmts block_nesting block_onto (suc n) ts) (after_sign (codes "{") ts >>= λ r. braces_at
      readers read r)
  braced_sound n read inside ts =
      let G : Stmts × List Spelled → Type 0 = GotOne FormedStmts block_nesting block_onto (suc n) ts in
      then_ensures (λ r. ts ≡ sign (codes "{") ∷ r) G (after_sign (codes "{") ts) _ (sign_taken (codes "{") ts)
      (λ r e. weaker _ G (braces_at readers read r) (λ ss h. record {
        formed = h.formed;
        small = omega (
          arith,
          h.small,
        );
        spelled = e ∙ ap (λ (u : List Spelled). sign (codes "{") ∷ u) h.spelled;
      }) (braces_sound readers sound n read
      inside r))

  mutual
    unfolding stmt_at

    pub stmt_sound : (n : ℕ) (ts : List Spelled) → Ensures (GotStmt n ts) (stmt_at readers n ts)
    stmt_sound zero ts = tt
    stmt_sound (suc n) ts = by_lead_sound n (stmt_at readers n) (block_at readers n) (stmt_sound n) (block_sound n)
        (statement_lead ts) ts (lead_is ts)

    pub block_sound : (n : ℕ) (ts : List Spelled) → Ensures (GotOne FormedStmts block_nesting block_onto n ts)
        (block_at readers n ts)
    block_sound zero ts = tt
    block_sound (suc n) ts = braced_sound n (stmt_at readers n) (stmt_sound n) ts
